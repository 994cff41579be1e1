-- The low bits of a number, where all of them are asked for: which are zero, and the number with them set.
use mathlib.Core.Path.{◌≡◌, sym, ◌∙◌}
use Prim.Native.Nat.{ℕ, suc, ◌+◌, ◌-◌, ◌*◌, ◌^◌, ◌%◌, ◌/◌, ◌<◌, ◌≤◌}
use native.Mathlib.Omega.{arith}
use borrow.Author.Tests.{eq-eqb, ne_eqb}
use lib.Bits.{bit_and, bit_or}
use lib.Pow.{pow-add, pow_pos, shr_lt, split}
use native.Mathlib.Nat.{mul-le-mul_right, pow-zero, div-one}
use Rattle.std.specs.Prelude.{Some, None}
use Rattle.std.proofs.lemmas.Nat.Bits.{and_high, and_high_mask, or_low_ones}
use Rattle.prefix.specs.Prefix.{prefix_range}

-- low is the number whose lowest k bits are ones
module _ (k n low : ℕ) (ones : suc low ≡ 2 ^ k) where
  low-is : low ≡ 2 ^ k - 1
  low-is = omega arith

  pub low_part : bit_and n low ≡ n % 2 ^ k
  low_part =
      let e : k + 0 ≡ k = omega arith in
      let f : n / 1 % 2 ^ k * 1 ≡ n % 2 ^ k = rw div-one (omega arith) in
      rw low-is (rw (e, pow-zero) at (and_high n k 0) ∙ f)

  -- a number of w bits, of which the lowest k are zero
  module _ (w : ℕ) (within : k ≤ w) (fits : n < 2 ^ w) (zero : n % 2 ^ k ≡ 0) where
    whole : n / 2 ^ k * 2 ^ k ≡ n
    whole = omega (arith, split n k)

    pub low_set : bit_or n low + 1 ≡ n + 2 ^ k
    low_set = rw low-is (or_low_ones w k within n (and_high_mask w k within n fits ∙ whole))

    pub low-fits : bit_or n low < 2 ^ w
    low-fits =
        let e : w - k + k ≡ w = omega arith in
        let q : n / 2 ^ k < 2 ^ (w - k) = shr_lt (w - k) k (rw e fits) in
        omega (arith, whole, low_set, mul-le-mul_right (2 ^ k) q, rw e at (pow-add 2 (w - k) k))

-- a byte whose low k bits are zero has room for them
pub room : (k b : ℕ) → k ≤ 8 → b < 256 → b % 2 ^ k ≡ 0 → b + (2 ^ k - 1) < 256
room k b l g z =
    let w : 8 - k + k ≡ 8 = omega arith in
    let c : 2 ^ (8 - k) * 2 ^ k ≡ 256 = sym (pow-add 2 (8 - k) k) ∙ rw w in
    let q : b / 2 ^ k < 2 ^ (8 - k) = shr_lt (8 - k) k (rw w g) in
    let p : 0 < 2 ^ k = pow_pos k in
    omega (arith, split b k, mul-le-mul_right (2 ^ k) q)

-- the answer, from the low bits
module _ (bits first l : ℕ) where
  pub ranged : (last : ℕ) → first % 2 ^ (bits - l) ≡ 0 → last + 1 ≡ first + 2 ^ (bits - l)
      → Some (record { first = first; last = last }) ≡ prefix_range bits first l
  unfolding prefix_range
  ranged last z e = let h : last ≡ first + 2 ^ (bits - l) - 1 = omega arith in rw (h, eq-eqb (first % 2 ^ (bits - l)) 0 z)

  pub none-ranged : 0 < first % 2 ^ (bits - l) → None ≡ prefix_range bits first l
  unfolding prefix_range
  none-ranged z = rw (ne_eqb (first % 2 ^ (bits - l)) 0 (λ (q : first % 2 ^ (bits - l) ≡ 0). omega arith))
