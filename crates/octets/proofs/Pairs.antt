-- The order of two words, as digits to a base, by the theorem `order`.
use mathlib.Core.Path.{◌≡◌, refl, sym, ap₂, ◌∙◌}
use mathlib.Core.Bool.{true, false}
use mathlib.Core.List.{List, [], ◌∷◌}
use Prim.Native.Nat.{ℕ, zero, suc, ◌+◌, ◌*◌, ◌^◌, ◌<◌, ◌≤◌}
use native.Mathlib.Omega.{arith}
use native.Mathlib.Nat.{zero-mul, zero-add}
use lib.Dec.{leb, ltb}
use lib.ListN.{length}
use lib.Seq.{slice}
use native.Mathlib.Decide.{dec_lt}
use borrow.Author.Tests.{lt-ltb, le-ltb}
use Rattle.octets.specs.Number.{value, value_from, at_most, Digits, Bytes, order}
use Rattle.octets.specs.Positions.{number_in}
use Rattle.octets.proofs.Comparing as step
use Rattle.octets.proofs.Digits.{value-below, part_length, part_bytes, cut}

-- two words, as digits to a base
module _ (base : ℕ) where
  pair_is : (h l : ℕ) → value_from base 0 (h ∷ l ∷ []) ≡ h * base + l
  unfolding value_from
  pair_is h l = rw (zero-mul base, zero-add h)

  last-is : (l : ℕ) → value_from base 0 (l ∷ []) ≡ l
  unfolding value_from
  last-is l = rw (zero-mul base, zero-add l)

  two : (h l : ℕ) → h < base → l < base → Digits base (h ∷ l ∷ [])
  two h l p q zero k = p
  two h l p q (suc zero) k = q
  two h l p q (suc (suc i)) k = absurd (omega (arith, k))

  one : (l : ℕ) → l < base → Digits base (l ∷ [])
  one l q zero k = q
  one l q (suc i) k = absurd (omega (arith, k))

  module _ (h l g m : ℕ) (p : h < base) (q : l < base) (r : g < base) (s : m < base) where
    compared : at_most (h ∷ l ∷ []) (g ∷ m ∷ []) ≡ leb (h * base + l) (g * base + m)
    compared = order base (h ∷ l ∷ []) (g ∷ m ∷ []) refl (two h l p q) (two g m r s) ∙ rw (pair_is h l, pair_is g m)

    pub high-below : h < g → true ≡ leb (h * base + l) (g * base + m)
    high-below k = sym (step.below (h ∷ l ∷ []) (g ∷ m ∷ []) 0 (omega arith) (omega arith) k) ∙ compared

    pub high-above : g < h → false ≡ leb (h * base + l) (g * base + m)
    high-above k = sym (step.above (h ∷ l ∷ []) (g ∷ m ∷ []) 0 (omega arith) (omega arith) k) ∙ compared

    pub high_same : h ≤ g → g ≤ h → leb l m ≡ leb (h * base + l) (g * base + m)
    high_same k j = sym low ∙ sym (step.onward (h ∷ l ∷ []) (g ∷ m ∷ []) 0 (omega arith) (omega arith) k j) ∙ compared
      where
        low : at_most (l ∷ []) (m ∷ []) ≡ leb l m
        low = order base (l ∷ []) (m ∷ []) refl (one l q) (one m s) ∙ rw (last-is l, last-is m)

    -- the high ones differ, and their order decides
    pub high-differs : (h ≡ g → ⊥) → ltb h g ≡ leb (h * base + l) (g * base + m)
    high-differs n = by_order (dec_lt h g)
      where
        by_order : Dec (h < g) → ltb h g ≡ leb (h * base + l) (g * base + m)
        by_order (yes k) = lt-ltb h g k ∙ high-below k
        by_order (no k) = le-ltb h g (omega arith) ∙ high-above (omega arith)

-- a part of n bytes is a number below 256 ^ n
part-below : (s : List ℕ) (at n : ℕ) → at + n ≤ length s → Bytes s → number_in s at n < 2 ^ (8 * n)
part-below s at n h b =
    let k : value (slice at (at + n) s) < 2 ^ (8 * length (slice at (at + n) s)) = value-below (slice at (at + n) s) (part_bytes s at n h b) in
    let e : length (slice at (at + n) s) ≡ n = part_length s at n h in
    rw e at k

-- The order of two numbers of sixteen bytes, by their words of eight, which are digits to the base 2 ^ 64.
module _ (a : List ℕ) (x : ℕ) (b : List ℕ) (y : ℕ) (p : x + 16 ≤ length a) (q : y + 16 ≤ length b) (f : Bytes a) (g : Bytes b) where
  cuts : leb (number_in a x 8 * 2 ^ 64 + number_in a (x + 8) 8) (number_in b y 8 * 2 ^ 64 + number_in b (y + 8) 8) ≡ leb (number_in a x 16) (number_in b y 16)
  cuts = ap₂ leb (sym (cut a x 8 8 p)) (sym (cut b y 8 8 q))

  pub high-words-differ : (number_in a x 8 ≡ number_in b y 8 → ⊥) → ltb (number_in a x 8) (number_in b y 8) ≡ leb (number_in a x 16) (number_in b y 16)
  high-words-differ n =
      high-differs (2 ^ 64) (number_in a x 8) (number_in a (x + 8) 8) (number_in b y 8) (number_in b (y + 8) 8)
      (part-below a x 8 (omega arith) f) (part-below a (x + 8) 8 (omega arith) f) (part-below b y 8 (omega arith) g) (part-below b (y + 8) 8 (omega arith) g) n
      ∙ cuts

  pub high_words_same : number_in a x 8 ≡ number_in b y 8 → leb (number_in a (x + 8) 8) (number_in b (y + 8) 8) ≡ leb (number_in a x 16) (number_in b y 16)
  high_words_same e =
      high_same (2 ^ 64) (number_in a x 8) (number_in a (x + 8) 8) (number_in b y 8) (number_in b (y + 8) 8)
      (part-below a x 8 (omega arith) f) (part-below a (x + 8) 8 (omega arith) f) (part-below b y 8 (omega arith) g) (part-below b (y + 8) 8 (omega arith) g)
      (omega arith) (omega arith)
      ∙ cuts
