-- Digits counted and stored, the last one first: those of what is left of the number v, before what stands in the buffer, are the whole.
use Prim.Native.Nat.{ℕ, suc, ◌+◌, ◌-◌, ◌/◌, ◌%◌, ◌≤◌, ◌<◌}
use mathlib.Core.Path.{◌≡◌, sym, ap, ◌∙◌}
use mathlib.Core.List.{List, [], ◌∷◌, ◌++◌, append_assoc}
use native.Mathlib.Omega.{arith}
use lib.ListN.{length, drop, set, length-append, length-set}
use lib.Seq.{drop-cons, drop-set-lt, get_or-set_same}
use Rattle.numeral.specs.Digits.{digit_of, numeral_text}
use Rattle.numeral.proofs.Digits.{one_digit, more-digits}

-- what stands from i on after x is stored there
from-set : (text : List ℕ) (i x : ℕ) → i < length text → drop i (set text i x) ≡ x ∷ drop (suc i) text
from-set text i x h =
    let l : i < length (set text i x) = omega (arith, length-set text i x) in
    let k : i < suc i = omega arith in
    drop-cons (set text i x) i 0 l ∙ rw (get_or-set_same text i x 0 h, drop-set-lt (suc i) text i x k)

module _ (base : ℕ) (low : 2 ≤ base) (v : ℕ) where
  pub count-one : v < base → length (numeral_text base v) ≡ 1
  count-one h = rw (one_digit base low v h)

  pub count-more : base ≤ v → length (numeral_text base v) ≡ length (numeral_text base (v / base)) + 1
  count-more h = rw (more-digits base low v h) (length-append (numeral_text base (v / base)) (digit_of (v % base) ∷ []))

  -- there is one digit more than i
  module _ {whole : List ℕ} (text : List ℕ) (i : ℕ) (room : i < length text) (starts : length (numeral_text base v) ≡ suc i) (e : numeral_text base v ++ drop (suc i) text ≡ whole) where
    pub store_digit : base ≤ v → 1 ≤ i → numeral_text base (v / base) ++ drop (suc (i - 1)) (set text i (digit_of (v % base))) ≡ whole
    store_digit h k =
        let same : suc (i - 1) ≡ i = omega arith in
        rw (same, from-set text i (digit_of (v % base)) room)
        (sym (append_assoc (numeral_text base (v / base)) (digit_of (v % base) ∷ []) (drop (suc i) text)) ∙ rw (more-digits base low v h) at e)

    pub store_first : v < base → set text i (digit_of v) ≡ whole
    store_first h =
        let z : i ≡ 0 = omega (arith, count-one h, starts) in
        ap (λ (j : ℕ). drop j (set text i (digit_of v))) (sym z) ∙ from-set text i (digit_of v) room ∙ rw (one_digit base low v h) at e
