-- A text is no IPv6 address if it holds a byte x that stands in none: no digit, no dot and no colon.
use Rattle.std.specs.Prelude.{Option, None, Some}
use Prim.Native.Nat.{ℕ, ◌+◌, ◌≤◌}
use Prim.Native.Char.{code}
use mathlib.Core.Path.{◌≡◌, refl, sym, ◌∙◌}
use mathlib.Core.List.{List, [], ◌∷◌}
use mathlib.Core.Bool.{Bool, true, false, cond, false≢true, ◌||◌}
use lib.Dec.{ltb}
use lib.ListN.{length, take, drop}
use borrow.Author.Tests.{ltb-true}
use Rattle.octets.specs.Lists.{any, contains}
use Rattle.numeral.specs.Numeral.{digit_value}
use Rattle.numeral.proofs.Laws.{h16-not}
use Rattle.octets.specs.Split.{split}
use Rattle.octets.proofs.Pieces.{in_piece}
use Rattle.octets.proofs.Connectives.{or_false}
use Rattle.ipv4.specs.Ipv4.{joined, exactly}
use Rattle.ipv4.proofs.Foreign.{joined-none, ipv4-not}
use Rattle.elision.specs.Elision.{elided, elision}
use Rattle.elision.proofs.Elisions.{beside}
use Rattle.ipv6.specs.Ipv6.{group, or_else, last_group, groups, side, ipv6}
use Rattle.ipv6.proofs.GroupLaws.{group-none}

module _ (x : ℕ) (no_digit : 10 ≤ digit_value x) (no-dot : x ≡ code "." → ⊥) (no-hex : 16 ≤ digit_value x) (no_colon : x ≡ code ":" → ⊥) where
  last-not : (tail : Bool) (p : List ℕ) → contains x p ≡ true → last_group tail p ≡ None
  unfolding last_group or_else
  last-not true p e = rw (group-none p (h16-not x p e no-hex), ipv4-not x no_digit no-dot p e)
  last-not false p e = group-none p (h16-not x p e no-hex)

  groups-not : (tail : Bool) (ps : List (List ℕ)) → any (contains x) ps ≡ true → groups tail ps ≡ None
  unfolding groups joined
  groups-not tail [] e = refl
  groups-not tail (p ∷ []) e = last-not tail p (sym (or_false (contains x p)) ∙ e)
  groups-not tail (p ∷ q ∷ ps) e = by_first (contains x p) refl e (groups-not tail (q ∷ ps))
    where
      by_first : (b : Bool) → contains x p ≡ b → b || any (contains x) (q ∷ ps) ≡ true → (any (contains x) (q ∷ ps) ≡ true → groups tail (q ∷ ps) ≡ None)
          → joined (group p) (groups tail (q ∷ ps)) ≡ None
      by_first true h k f = rw (group-none p (h16-not x p h no-hex))
      by_first false h k f = rw (f k) (joined-none (group p))

  groups_in : (tail : Bool) (s : List ℕ) → contains x s ≡ true → groups tail (split (code ":") s) ≡ None
  groups_in tail s e = groups-not tail (split (code ":") s) (in_piece (code ":") x no_colon s e)

  side-not : (tail : Bool) (s : List ℕ) → contains x s ≡ true → side tail s ≡ None
  unfolding side contains
  side-not tail [] e = absurd (false≢true e)
  side-not tail (c ∷ s) e = groups_in tail (c ∷ s) e

  elided-not : (s t : List ℕ) → contains x s || contains x t ≡ true → elided (side false s) (side true t) ≡ None
  unfolding elided
  elided-not s t e = by_side (contains x s) refl e
    where
      none_right : (o : Option (List ℕ)) → elided o None ≡ None
      none_right None = refl
      none_right (Some a) = refl

      by_side : (b : Bool) → contains x s ≡ b → b || contains x t ≡ true → elided (side false s) (side true t) ≡ None
      by_side true q h = rw (side-not false s q)
      by_side false q h = rw (side-not true t h) (none_right (side false s))

  pub ipv6-not : (s : List ℕ) → contains x s ≡ true → ipv6 s ≡ None
  unfolding ipv6 exactly
  ipv6-not s e = by-elision (ltb (elision s) (length s)) refl
    where
      by-elision : (b : Bool) → ltb (elision s) (length s) ≡ b
          → cond b (elided (side false (take (elision s) s)) (side true (drop (elision s + 2) s))) (exactly 16 (groups true (split (code ":") s))) ≡ None
      by-elision true q = elided-not (take (elision s) s) (drop (elision s + 2) s) (beside x no_colon s e (ltb-true (elision s) (length s) q))
      by-elision false q = rw (groups_in true s e)
