-- The bytes of a number that std writes, high byte first.
use Prim.Native.Nat.{ℕ, zero, suc, ◌*◌, ◌/◌, ◌%◌, ◌^◌, ◌<◌}
use mathlib.Core.Path.{◌≡◌, refl, sym, ap, ap₂, ◌∙◌}
use mathlib.Core.List.{[], ◌∷◌, ◌++◌}
use native.Mathlib.Nat.{pow-suc, div-div-eq-div-mul}
use native.Mathlib.Omega.{arith}
use Rattle.std.specs.Int.{byte_at, bytes_high_first}
use Rattle.octets.specs.Number.{value, value_from}
use Rattle.octets.proofs.Digits.{append_from}

next-byte : (n v : ℕ) → byte_at (suc n) v ≡ byte_at n (v / 256)
next-byte zero v = refl
next-byte (suc n) v =
    let e : 256 ^ suc (suc n) ≡ 256 * 256 ^ suc n = omega (arith, pow-suc 256 (suc n)) in
    ap (λ (k : ℕ). v / k % 256) e ∙ ap (λ (q : ℕ). q % 256) (sym (div-div-eq-div-mul v 256 (256 ^ suc n)))

-- the last byte is the low one
pub high_first-suc : (n v : ℕ) → bytes_high_first (suc n) v ≡ bytes_high_first n (v / 256) ++ (v % 256 ∷ [])
high_first-suc zero v = refl
high_first-suc (suc n) v = ap₂ ◌∷◌ (next-byte n v) (high_first-suc n v)

-- they have the number's value
pub value-high_first : (n v : ℕ) → v < 256 ^ n → value (bytes_high_first n v) ≡ v
unfolding value value_from
value-high_first zero v h = omega (arith, h)
value-high_first (suc n) v h =
    let b : v < 256 ^ n * 256 = rw (pow-suc 256 n) at h in
    let e : value (bytes_high_first n (v / 256)) ≡ v / 256 = value-high_first n (v / 256) (omega arith) in
    ap value (high_first-suc n v) ∙ append_from 0 (bytes_high_first n (v / 256)) (v % 256 ∷ []) ∙ omega (arith, e)
