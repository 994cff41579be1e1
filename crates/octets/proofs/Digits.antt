-- The number of two lists of bytes, one after the other, and of a part of a list, cut in two.
use mathlib.Core.Path.{◌≡◌, refl, ◌∙◌}
use mathlib.Core.List.{List, [], ◌∷◌, ◌++◌}
use Prim.Native.Nat.{ℕ, suc, ◌+◌, ◌*◌, ◌^◌, ◌<◌, ◌≤◌, zero-le, suc-le-suc}
use native.Mathlib.Nat.{mul-le-mul_right, zero-add}
use native.Mathlib.Numerals.{add-one}
use native.Mathlib.Omega.{arith}
use lib.ListN.{length, take, drop, get_or, length-drop}
use lib.Pow.{pow-add}
use lib.Seq.{slice, slice-cons, slice_empty, take-add, take-length, drop-drop, drop_at, length-take-le, length-slice, get_or-drop, get_or-take}
use Rattle.octets.specs.Number.{value, value_from, Bytes}
use Rattle.octets.specs.Positions.{number_in}

eight-more : (n : ℕ) → 2 ^ (8 * suc n) ≡ 256 * 2 ^ (8 * n)
eight-more n = let e : 8 * suc n ≡ 8 + 8 * n = omega arith in rw (e, pow-add 2 8 (8 * n))

pub append_from : (n : ℕ) (s t : List ℕ) → value_from 256 n (s ++ t) ≡ value_from 256 (value_from 256 n s) t
unfolding value_from
append_from n [] t = refl
append_from n (b ∷ s) t = append_from (n * 256 + b) s t

-- what stands before the digits of s is multiplied by 256 for each of them
pub value_after : (n : ℕ) (s : List ℕ) → value_from 256 n s ≡ n * 2 ^ (8 * length s) + value s
unfolding value_from value
value_after n [] = omega arith
value_after n (b ∷ s) = rw (value_after (n * 256 + b) s, value_after (0 * 256 + b) s, eight-more (length s)) (omega arith)

pub value_append : (s t : List ℕ) → value (s ++ t) ≡ value s * 2 ^ (8 * length t) + value t
unfolding value
value_append s t = append_from 0 s t ∙ value_after (value s) t

pub value-one : (b : ℕ) → value (b ∷ []) ≡ b
unfolding value_from value
value-one b = zero-add b

pub value-below : (s : List ℕ) → Bytes s → value s < 2 ^ (8 * length s)
unfolding value_from value
value-below [] d = omega arith
value-below (b ∷ s) d =
    let h : b < 256 = d 0 (suc-le-suc zero-le) in
    let g : b ≤ 255 = omega arith in
    let k : value s < 2 ^ (8 * length s) = value-below s (λ i l. d (suc i) (suc-le-suc l)) in
    rw (value_after (0 + b) s, eight-more (length s)) (omega (arith, mul-le-mul_right (2 ^ (8 * length s)) g))

-- the n elements at a position
module _ (s : List ℕ) (at n : ℕ) (h : at + n ≤ length s) where
  pub part-is : slice at (at + n) s ≡ take n (drop at s)
  part-is = rw (take-add at n s) (drop_at (take at s) (take n (drop at s)) at (length-take-le at s (omega arith)))

  pub part_length : length (slice at (at + n) s) ≡ n
  part_length = length-slice at (at + n) s h ∙ omega arith

  pub part_bytes : Bytes s → Bytes (slice at (at + n) s)
  part_bytes b i l =
      let k = part_length in
      rw (get_or-drop at (take (at + n) s) i 0, get_or-take (at + n) s (at + i) 0 (omega arith)) (b (at + i) (omega arith))

pub cut : (s : List ℕ) (at m n : ℕ) → at + (m + n) ≤ length s → number_in s at (m + n) ≡ number_in s at m * 2 ^ (8 * n) + number_in s (at + m) n
cut s at m n h =
    rw (part-is s at (m + n) h, part-is s at m (omega arith), part-is s (at + m) n (omega arith), take-add m n (drop at s), drop-drop m at s)
    (value_append (take m (drop at s)) (take n (drop (at + m) s)) ∙ rw (length-take-le n (drop (at + m) s) (omega (arith, length-drop (at + m) s))))

one_byte_lem : (s : List ℕ) (at : ℕ) → at + 1 ≤ length s → number_in s at 1 ≡ get_or s at 0
one_byte_lem s at h =
    rw (slice-cons at (at + 1) s 0 (omega arith) h, add-one at, slice_empty (suc at) s) (value-one (get_or s at 0))

-- one byte more
more : (s : List ℕ) (at n : ℕ) → at + (n + 1) ≤ length s → number_in s at (n + 1) ≡ number_in s at n * 256 + get_or s (at + n) 0
more s at n h = cut s at n 1 h ∙ rw (one_byte_lem s (at + n) (omega arith))

pub four_bytes : (s : List ℕ) (at : ℕ) → at + 4 ≤ length s
    → number_in s at 4 ≡ ((get_or s at 0 * 256 + get_or s (at + 1) 0) * 256 + get_or s (at + 2) 0) * 256 + get_or s (at + 3) 0
four_bytes s at h = rw (more s at 3 h, more s at 2 (omega arith), more s at 1 (omega arith), one_byte_lem s at (omega arith))

pub eight_bytes : (s : List ℕ) (at : ℕ) → at + 8 ≤ length s
    → number_in s at 8
    ≡ ((((((get_or s at 0 * 256 + get_or s (at + 1) 0) * 256 + get_or s (at + 2) 0) * 256 + get_or s (at + 3) 0) * 256 + get_or s (at + 4) 0) * 256
    + get_or s (at + 5) 0) * 256 + get_or s (at + 6) 0) * 256 + get_or s (at + 7) 0
eight_bytes s at h =
    rw (more s at 7 h, more s at 6 (omega arith), more s at 5 (omega arith), more s at 4 (omega arith), four_bytes s at (omega arith))

-- the whole of a list
pub number-whole : (s : List ℕ) (n : ℕ) → length s ≡ n → number_in s 0 n ≡ value s
number-whole s n e = rw (← e, zero-add (length s), take-length s)
