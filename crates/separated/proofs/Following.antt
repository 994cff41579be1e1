-- Numbers written one after another, each into the rest of the buffer.
use Prim.Native.Nat.{ℕ, suc, ◌+◌, ◌≤◌, ◌<◌}
use mathlib.Core.Path.{◌≡◌, refl, ap, ◌∙◌}
use mathlib.Core.List.{List, [], ◌∷◌, ◌++◌}
use native.Mathlib.Omega.{arith}
use native.Mathlib.Numerals.{add-one}
use lib.ListN.{length, drop, get_or, length-append, drop_of_length-le}
use lib.Seq.{drop-cons}
use Rattle.output.proofs.Writing.{Parted}
use Rattle.numeral.specs.Digits.{numeral_text, following, spelled}
use Rattle.numeral.proofs.Spelled.{following_append}

module _ (sep base : ℕ) (numbers : List ℕ) {i : ℕ} where
  pub next-number : i < length numbers → Parted (following sep base (drop i numbers)) (following sep base (get_or numbers i 0 ∷ [])) (following sep base (drop (i + 1) numbers))
  next-number h = record { is = rw (add-one i, drop-cons numbers i 0 h) (following_append sep base (get_or numbers i 0 ∷ []) (drop (suc i) numbers)) }

  pub no_number : length numbers ≤ i → following sep base (drop i numbers) ≡ []
  unfolding following
  no_number h = rw (drop_of_length-le numbers h)

pub spelled_none : (sep base : ℕ) (numbers : List ℕ) → length numbers ≡ 0 → spelled sep base numbers ≡ []
unfolding spelled
spelled_none sep base [] e = refl
spelled_none sep base (n ∷ numbers) e = absurd (omega arith)

pub spelled-first : (sep base : ℕ) (numbers : List ℕ) → 0 < length numbers
    → spelled sep base numbers ≡ numeral_text base (get_or numbers 0 0) ++ following sep base (drop 1 numbers)
unfolding spelled
spelled-first sep base [] h = absurd (omega arith)
spelled-first sep base (n ∷ numbers) h = refl

pub length-first : (sep base : ℕ) (numbers : List ℕ) → 0 < length numbers
    → length (spelled sep base numbers) ≡ length (numeral_text base (get_or numbers 0 0)) + length (following sep base (drop 1 numbers))
length-first sep base numbers h =
    ap length (spelled-first sep base numbers h) ∙ length-append (numeral_text base (get_or numbers 0 0)) (following sep base (drop 1 numbers))
