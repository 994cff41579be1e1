-- A number with its trailing zeros set.
use Prim.Native.Nat.{ℕ, zero, suc, ◌+◌, ◌-◌, ◌*◌, ◌/◌, ◌%◌, ◌^◌, ◌<◌}
use mathlib.Core.Path.{◌≡◌, refl, ap, ap₂, ◌∙◌}
use native.Mathlib.Decide.{dec_lt}
use native.Mathlib.Nat.{pow-suc, zero-mul, zero-add}
use native.Mathlib.Omega.{arith}
use lib.Bits.{bit_or}
use lib.Count.{count_trailing_zeros}
use lib.Pow.{pow_pos}
use Rattle.std.specs.Int.Bits.{or_self}
use Rattle.std.proofs.lemmas.Nat.{or_block, or_shifted}
use Rattle.cidr.proofs.Zeros.{Zeros, zeros}

-- an odd number j * 2 + 1, with z zeros behind it
module _ (j z : ℕ) where
  odd : bit_or (j * 2 + 1) (j * 2 + 0) ≡ j * 2 + 1
  odd = or_block 1 j j 1 0 (omega arith) (omega arith) ∙ rw or_self

  set-zeros : bit_or ((j * 2 + 1) * 2 ^ z) ((j * 2 + 1) * 2 ^ z - 1) ≡ (j * 2 + 1) * 2 ^ z + (2 ^ z - 1)
  set-zeros =
      let p = pow_pos z in
      let a : (j * 2 + 1) * 2 ^ z ≡ (j * 2 + 1) * 2 ^ z + 0 = omega arith in
      let low : bit_or 0 (2 ^ z - 1) ≡ 2 ^ z - 1 = rw (zero-mul, zero-add) at (or_shifted 0 z (2 ^ z - 1) (omega arith)) in
      let b : (j * 2 + 1) * 2 ^ z - 1 ≡ (j * 2 + 0) * 2 ^ z + (2 ^ z - 1) = omega arith in
      ap₂ bit_or a b ∙ or_block z (j * 2 + 1) (j * 2 + 0) 0 (2 ^ z - 1) p (omega arith)
      ∙ ap₂ (λ (h l : ℕ). h * 2 ^ z + l) odd low

-- without its zeros a number is odd
odd-part : (n : ℕ) → 0 < n → n < 2 ^ 128 → (j : ℕ) × (n ≡ (j * 2 + 1) * 2 ^ count_trailing_zeros 128 n)
odd-part n h b = (m / 2, z.multiple.equal ∙ ap (λ (k : ℕ). k * 2 ^ count_trailing_zeros 128 n) (by_parity (m % 2) refl))
  where
    z : Zeros 128 n (count_trailing_zeros 128 n)
    z = zeros 128 n

    m : ℕ
    m = z.multiple.times

    short : Dec (count_trailing_zeros 128 n < 128) → count_trailing_zeros 128 n < 128
    short (yes l) = l
    short (no l) =
        let e : count_trailing_zeros 128 n ≡ 128 = omega (arith, z.short) in
        absurd (omega (arith, rw e at z.multiple.equal))

    by_parity : (r : ℕ) → m % 2 ≡ r → m ≡ m / 2 * 2 + 1
    by_parity zero e =
        let f : m ≡ m / 2 * 2 = omega arith in
        let g : n ≡ m / 2 * 2 ^ suc (count_trailing_zeros 128 n) = z.multiple.equal ∙ ap (λ (k : ℕ). k * 2 ^ count_trailing_zeros 128 n) f ∙ rw (pow-suc 2 (count_trailing_zeros 128 n)) (omega arith) in
        absurd (z.next (short (dec_lt _ 128)) (record { times = m / 2; equal = g }))
    by_parity (suc r) e = omega arith

-- by the number before it, where it is not 0, and else by all bits
pub zeros-end : (n : ℕ) → n < 2 ^ 128 → suc (bit_or n ((n + 340282366920938463463374607431768211455) % 340282366920938463463374607431768211456)) ≡ n + 2 ^ count_trailing_zeros 128 n
unfolding count_trailing_zeros
zeros-end n b = go (dec_lt 0 n)
  where
    go : Dec (0 < n) → suc (bit_or n ((n + 340282366920938463463374607431768211455) % 340282366920938463463374607431768211456)) ≡ n + 2 ^ count_trailing_zeros 128 n
    go (yes h) =
        let o = odd-part n h b in
        let z : ℕ = count_trailing_zeros 128 n in
        let e : (n + 340282366920938463463374607431768211455) % 340282366920938463463374607431768211456 ≡ n - 1 = omega arith in
        let p = pow_pos z in
        ap (λ (k : ℕ). suc (bit_or n k)) e ∙ ap (λ (k : ℕ). suc (bit_or k (k - 1))) o.1 ∙ ap suc (set-zeros o.0 z) ∙ omega (arith, o.1)
    go (no h) = let e : n ≡ 0 = omega arith in rw e refl
