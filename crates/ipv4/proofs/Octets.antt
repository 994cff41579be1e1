-- Laws of bytes put in front of others, and of the loop over the octets of an IPv4 address: a piece is no octet, is the last one, or goes before a dot.
use Rattle.std.specs.Prelude.{Option, None, Some}
use Prim.Native.Nat.{ℕ, ◌+◌, ◌≤◌, ◌<◌}
use Prim.Native.Char.{code}
use mathlib.Core.Path.{◌≡◌, refl, sym, ap, ◌∙◌}
use mathlib.Core.List.{List, [], ◌∷◌, ◌++◌, append_assoc, append-nil}
use mathlib.Core.Bool.{Bool, true, false, cond}
use native.Mathlib.Omega.{arith}
use native.Mathlib.Decide.{dec_le}
use native.Mathlib.Numerals.{add-one}
use lib.Dec.{eqb}
use lib.ListN.{length, take, drop, set, length-append, length-set}
use lib.Seq.{take_all, take-suc-set, length-take-le}
use borrow.Author.Tests.{ne_eqb, eqb-true}
use Rattle.numeral.specs.Numeral.{decimal}
use Rattle.octets.specs.Split.{split, FirstPiece}
use Rattle.std.specs.Bool.{then_some}
use Rattle.std.proofs.lemmas.Bool.Decides.{nat_tests}
use Rattle.ipv4.specs.Ipv4.{prefixed, joined, exactly, one_byte, octets, ipv4}
use Rattle.octets.proofs.Pieces.{split-cons}

pub prefixed-twice : (a b : List ℕ) (o : Option (List ℕ)) → prefixed a (prefixed b o) ≡ prefixed (a ++ b) o
unfolding prefixed
prefixed-twice a b None = refl
prefixed-twice a b (Some r) = rw append_assoc

pub prefixed-by_nil : (o : Option (List ℕ)) → prefixed [] o ≡ o
unfolding prefixed
prefixed-by_nil None = refl
prefixed-by_nil (Some r) = refl

-- v pushed to the n bytes at the front of an array
pub push_prefixed : (v n : ℕ) (bytes : List ℕ) (o : Option (List ℕ)) → n < length bytes
    → prefixed (take n bytes) (prefixed (v ∷ []) o) ≡ prefixed (take (n + 1) (set bytes n v)) o
push_prefixed v n bytes o h = rw (add-one, take-suc-set bytes n v h) (prefixed-twice (take n bytes) (v ∷ []) o)

then-same : (b : Bool) (x y : List ℕ) → (b ≡ true → x ≡ y) → then_some b x ≡ cond b (Some y) None
then-same true x y h = ap Some (h refl)
then-same false x y h = refl

-- the n bytes at the front of an array of k, where they are to be k
pub front-exactly : (k n : ℕ) (bytes : List ℕ) → length bytes ≡ k → n ≤ k → then_some (eqb n k) bytes ≡ exactly k (Some (take n bytes))
unfolding exactly
front-exactly k n bytes e h =
    let l : length (take n bytes) ≡ n = length-take-le n bytes (omega arith) in
    rw l (then-same (eqb n k) bytes (take n bytes) (λ q. sym (take_all n bytes (omega (arith, eqb-true n k q)))))

octets-over : (a : List ℕ) (x : Option ℕ) (o : Option (List ℕ)) → length a ≡ 4 → exactly 4 (prefixed a (joined (one_byte x) o)) ≡ None
unfolding exactly prefixed joined one_byte
octets-over a None o h = refl
octets-over a (Some v) None h = refl
octets-over a (Some v) (Some b) h = rw (ne_eqb (length (a ++ v ∷ b)) 4 (λ q. omega (arith, length-append a (v ∷ b))))

-- The loop of the IPv4 reader: the n bytes at the front of bytes are read from s, and t is the rest of s.
module _ (s t bytes : List ℕ) (n : ℕ) (inv : prefixed (take n bytes) (octets (split (code ".") t)) ≡ octets (split (code ".") s)) (four : length bytes ≡ 4) where
  -- after four octets something is left
  pub ipv4-over : n ≡ 4 → None ≡ ipv4 s
  unfolding ipv4 octets
  ipv4-over h =
      let (p, ps, e) = split-cons (code ".") t in
      let l : length (take n bytes) ≡ 4 = length-take-le n bytes (omega arith) ∙ h in
      sym (octets-over (take n bytes) (decimal 255 p) (octets ps) l) ∙ ap (exactly 4) (ap (λ (x : List (List ℕ)). prefixed (take n bytes) (octets x)) (sym e) ∙ inv)

  module _ (j : ℕ) (first : FirstPiece (code ".") t j) where
    bad_octet : Dec (length t ≤ j) → decimal 255 (take j t) ≡ None → octets (split (code ".") t) ≡ None
    unfolding octets joined one_byte
    bad_octet (yes h) e = let e' : decimal 255 t ≡ None = rw (take_all j t h) at e in rw (first.last h, e')
    bad_octet (no h) e = rw (first.more (omega arith), e)

    -- a piece that is no octet
    pub ipv4-bad : decimal 255 (take j t) ≡ None → None ≡ ipv4 s
    unfolding ipv4 prefixed exactly
    ipv4-bad e = ap (exactly 4) (ap (prefixed (take n bytes)) (sym (bad_octet (dec_le (length t) j) e)) ∙ inv)

    module _ (v : ℕ) (e : decimal 255 (take j t) ≡ Some v) (room : n < 4) where
      pushed : (o : Option (List ℕ)) → octets (split (code ".") t) ≡ prefixed (v ∷ []) o → prefixed (take (n + 1) (set bytes n v)) o ≡ octets (split (code ".") s)
      pushed o q = sym (push_prefixed v n bytes o (omega arith)) ∙ ap (prefixed (take n bytes)) (sym q) ∙ inv

      fourth : eqb n 3 ≡ eqb (n + 1) 4
      fourth = grind (arith, nat_tests)

      -- the last piece
      pub ipv4-done : length t ≤ j → then_some (eqb n 3) (set bytes n v) ≡ ipv4 s
      unfolding ipv4 octets joined one_byte prefixed
      ipv4-done h =
          let e' : decimal 255 t ≡ Some v = rw (take_all j t h) at e in
          let q : octets (split (code ".") t) ≡ prefixed (v ∷ []) (Some []) = rw (first.last h, e') in
          rw fourth
          (front-exactly 4 (n + 1) (set bytes n v) (length-set bytes n v ∙ four) (omega arith)
          ∙ ap (exactly 4) (ap Some (sym (append-nil (take (n + 1) (set bytes n v)))) ∙ pushed (Some []) q))

      -- a piece with a dot after it
      pub ipv4-next : j < length t → prefixed (take (n + 1) (set bytes n v)) (octets (split (code ".") (drop (j + 1) t))) ≡ octets (split (code ".") s)
      unfolding octets joined one_byte
      ipv4-next h = pushed (octets (split (code ".") (drop (j + 1) t))) (rw (first.more h, e))
