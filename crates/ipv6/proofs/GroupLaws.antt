-- Laws of the groups of an IPv6 address and of the sides of "::": the last group, the loop over the groups, and sides that are refused.
use Rattle.std.specs.Prelude.{Option, None, Some}
use Prim.Native.Nat.{ℕ, ◌+◌, ◌≤◌, ◌<◌, ◌/◌, ◌%◌}
use Prim.Native.Char.{code}
use mathlib.Core.Path.{◌≡◌, refl, sym, ap, ◌∙◌}
use mathlib.Core.List.{List, [], ◌∷◌, ◌++◌, append-nil}
use mathlib.Core.Bool.{Bool, true, false}
use native.Mathlib.Omega.{arith}
use lib.Dec.{leb}
use lib.ListN.{length, take, drop, length-append}
use borrow.Author.Tests.{ne_eqb, lt-ltb, le-ltb, le-leb, lt-leb, leb-false}
use Rattle.std.specs.Int.{to_be_bytes}
use mir.Syntax.{w16}
use Rattle.numeral.specs.Numeral.{h16}
use Rattle.octets.specs.Split.{split, FirstPiece}
use Rattle.ipv4.specs.Ipv4.{prefixed, joined, exactly, ipv4}
use Rattle.elision.specs.Elision.{elided, elision}
use Rattle.ipv6.specs.Ipv6.{two_bytes, group, or_else, last_group, groups, side, ipv6}
use Rattle.ipv6.specs.Read.{up_to}
use Rattle.octets.proofs.Pieces.{split-cons}
use Rattle.octets.proofs.Found.{cond-some, cond-none}
use Rattle.ipv4.proofs.Octets.{prefixed-twice}
use Rattle.elision.proofs.Sides.{elided-long}

-- ---- refusals and answers

-- more than 16 bytes
pub too_long : (a b : List ℕ) (o : Option (List ℕ)) → 16 < length a + length b → up_to 16 (prefixed a (prefixed b o)) ≡ None
unfolding up_to prefixed
too_long a b None h = refl
too_long a b (Some r) h = rw (lt-leb (length (a ++ (b ++ r))) 16 (omega (arith, length-append a (b ++ r), length-append b r)))

pub prefixed_nil : (a : List ℕ) → prefixed a (Some []) ≡ Some a
unfolding prefixed
prefixed_nil a = rw append-nil

-- ---- the last group

pub be-bytes : (v : ℕ) → v ≤ 65535 → to_be_bytes w16 v ≡ v / 256 ∷ v % 256 ∷ []
be-bytes v h =
    let high : v / 256 % 256 ≡ v / 256 = omega arith in
    ap (λ (x : ℕ). x ∷ v % 256 ∷ []) high

pub group-bytes : (t : List ℕ) (v : ℕ) → h16 t ≡ Some v → group t ≡ Some (v / 256 ∷ v % 256 ∷ [])
unfolding group two_bytes
group-bytes t v e = rw e

pub group-none : (t : List ℕ) → h16 t ≡ None → group t ≡ None
unfolding group two_bytes
group-none t e = rw e

-- bytes b after those read
module _ (a : List ℕ) {o : Option (List ℕ)} where
  pub over : (b : List ℕ) → o ≡ Some b → 16 < length a + length b → up_to 16 (prefixed a o) ≡ None
  over b e h = rw (e, ← (prefixed_nil b)) (too_long a b (Some []) h)

  pub put : (b r : List ℕ) → o ≡ Some b → r ≡ a ++ b → length r ≤ 16 → Some r ≡ up_to 16 (prefixed a o)
  unfolding prefixed up_to
  put b r e q h = rw (e, ← q, le-leb (length r) 16 h)

  pub missing : o ≡ None → up_to 16 (prefixed a o) ≡ None
  unfolding prefixed up_to
  missing e = rw e

module _ (t : List ℕ) where
  pub last-group : (tail : Bool) (v : ℕ) → h16 t ≡ Some v → last_group tail t ≡ Some (v / 256 ∷ v % 256 ∷ [])
  unfolding last_group or_else
  last-group true v e = rw (group-bytes t v e)
  last-group false v e = group-bytes t v e

  pub last-ipv4 : (tail : Bool) → h16 t ≡ None → tail ≡ true → last_group tail t ≡ ipv4 t
  unfolding last_group or_else
  last-ipv4 tail e q = rw (q, group-none t e)

  pub last_none : (tail : Bool) → h16 t ≡ None → tail ≡ false → last_group tail t ≡ None
  unfolding last_group
  last_none tail e q = rw (q, group-none t e)

-- ---- the loop over the groups: the bytes a are read from s, and t is the rest of s, whose first piece is j bytes long

module _ (tail : Bool) (s t a : List ℕ) (j : ℕ) (inv : prefixed a (groups tail (split (code ":") t)) ≡ groups tail (split (code ":") s))
    (first : FirstPiece (code ":") t j) where
  more : j < length t → groups tail (split (code ":") t) ≡ joined (group (take j t)) (groups tail (split (code ":") (drop (j + 1) t)))
  unfolding groups
  more h = let (p, ps, e) = split-cons (code ":") (drop (j + 1) t) in rw (first.more h, e)

  pub groups-bad : j < length t → h16 (take j t) ≡ None → up_to 16 (groups tail (split (code ":") s)) ≡ None
  unfolding up_to prefixed joined
  groups-bad h e = rw (← inv, more h, group-none (take j t) e)

  pub groups-end : length t ≤ j → prefixed a (last_group tail t) ≡ groups tail (split (code ":") s)
  unfolding groups
  groups-end h = ap (λ (x : List (List ℕ)). prefixed a (groups tail x)) (sym (first.last h)) ∙ inv

  module _ (h : j < length t) (v : ℕ) (e : h16 (take j t) ≡ Some v) where
    more_bytes : groups tail (split (code ":") t) ≡ prefixed (v / 256 ∷ v % 256 ∷ []) (groups tail (split (code ":") (drop (j + 1) t)))
    unfolding joined
    more_bytes = rw (more h, group-bytes (take j t) v e)

    pub groups-over : 14 < length a → up_to 16 (groups tail (split (code ":") s)) ≡ None
    groups-over k =
        rw (← inv, more_bytes) (too_long a (v / 256 ∷ v % 256 ∷ []) (groups tail (split (code ":") (drop (j + 1) t))) (omega arith))

    pub groups-next : prefixed (a ++ (v / 256 ∷ v % 256 ∷ [])) (groups tail (split (code ":") (drop (j + 1) t))) ≡ groups tail (split (code ":") s)
    groups-next =
        sym (prefixed-twice a (v / 256 ∷ v % 256 ∷ []) (groups tail (split (code ":") (drop (j + 1) t)))) ∙ ap (prefixed a) (sym more_bytes) ∙ inv

-- ---- what an answer says

pub up-to-some : (o : Option (List ℕ)) (x : List ℕ) → Some x ≡ up_to 16 o → o ≡ Some x
unfolding up_to
up-to-some None x e = sym e
up-to-some (Some a) x e = ap Some (cond-some (leb (length a) 16) a x (sym e)).1

up-to-none : (a : List ℕ) → up_to 16 (Some a) ≡ None → 16 < length a
unfolding up_to
up-to-none a e = leb-false (length a) 16 (cond-none (leb (length a) 16) a e)

pub exactly-none : (o : Option (List ℕ)) → up_to 16 o ≡ None → exactly 16 o ≡ None
unfolding exactly
exactly-none None e = refl
exactly-none (Some a) e = rw (ne_eqb (length a) 16 (λ q. omega (arith, up-to-none a e)))

-- ---- the sides of "::"

pub elided-left : (o p : Option (List ℕ)) → up_to 16 o ≡ None → elided o p ≡ None
unfolding elided
elided-left None p e = refl
elided-left (Some a) None e = refl
elided-left (Some a) (Some b) e = elided-long a b (omega (arith, up-to-none a e))

pub elided-right : (o p : Option (List ℕ)) → up_to 16 p ≡ None → elided o p ≡ None
unfolding elided
elided-right None p e = refl
elided-right (Some a) None e = refl
elided-right (Some a) (Some b) e = elided-long a b (omega (arith, up-to-none b e))

pub side-empty : (tail : Bool) (s : List ℕ) → length s ≡ 0 → side tail s ≡ Some []
unfolding side
side-empty tail [] e = refl
side-empty tail (c ∷ s) e = let z : ⊥ = omega arith in absurd z

pub side-groups : (tail : Bool) (s : List ℕ) → (length s ≡ 0 → ⊥) → side tail s ≡ groups tail (split (code ":") s)
unfolding side
side-groups tail [] h = absurd (h refl)
side-groups tail (c ∷ s) h = refl

-- ---- an address

module _ (s : List ℕ) where
  pub ipv6-short : (at : ℕ) → (elision s < length s) × (at ≡ elision s) → ipv6 s ≡ elided (side false (take at s)) (side true (drop (at + 2) s))
  unfolding ipv6
  ipv6-short at h = rw (h.1, lt-ltb (elision s) (length s) h.0)

  pub ipv6-full : (elision s < length s → ⊥) → ipv6 s ≡ exactly 16 (groups true (split (code ":") s))
  unfolding ipv6
  ipv6-full h = rw (le-ltb (elision s) (length s) (omega arith))
