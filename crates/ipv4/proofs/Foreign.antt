-- A text is no IPv4 address if it holds a byte x that stands in none: no digit and no dot.
use Rattle.std.specs.Prelude.{Option, None, Some}
use Prim.Native.Nat.{ℕ, ◌≤◌}
use Prim.Native.Char.{code}
use mathlib.Core.Path.{◌≡◌, refl}
use mathlib.Core.List.{List, [], ◌∷◌}
use mathlib.Core.Bool.{Bool, true, false, false≢true, ◌||◌}
use Rattle.octets.specs.Lists.{any, contains}
use Rattle.numeral.specs.Numeral.{digit_value, decimal}
use Rattle.numeral.proofs.Laws.{decimal-not}
use Rattle.octets.specs.Split.{split}
use Rattle.octets.proofs.Pieces.{in_piece}
use Rattle.ipv4.specs.Ipv4.{prefixed, joined, exactly, one_byte, octets, ipv4}

pub joined-none : (o : Option (List ℕ)) → joined o None ≡ None
unfolding joined prefixed
joined-none None = refl
joined-none (Some a) = refl

module _ (x : ℕ) (no_digit : 10 ≤ digit_value x) (no-dot : x ≡ code "." → ⊥) where
  octets-not : (ps : List (List ℕ)) → any (contains x) ps ≡ true → octets ps ≡ None
  unfolding octets joined one_byte
  octets-not [] e = absurd (false≢true e)
  octets-not (p ∷ ps) e = by_first (contains x p) refl e (octets-not ps)
    where
      by_first : (b : Bool) → contains x p ≡ b → b || any (contains x) ps ≡ true → (any (contains x) ps ≡ true → octets ps ≡ None)
          → joined (one_byte (decimal 255 p)) (octets ps) ≡ None
      by_first true q h f = rw (decimal-not x p q 255 no_digit)
      by_first false q h f = rw (f h) (joined-none (one_byte (decimal 255 p)))

  pub ipv4-not : (s : List ℕ) → contains x s ≡ true → ipv4 s ≡ None
  unfolding ipv4 exactly
  ipv4-not s e = rw (octets-not (split (code ".") s) (in_piece (code ".") x no-dot s e))
