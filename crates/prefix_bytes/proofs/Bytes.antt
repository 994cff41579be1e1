-- The bytes of a number, high byte first.
use Prim.Native.Nat.{ℕ, zero, suc, ◌+◌, ◌*◌, ◌/◌, ◌%◌, ◌^◌, ◌<◌}
use mathlib.Core.Path.{◌≡◌, refl, sym, ap, ◌∙◌}
use mathlib.Core.List.{List, [], ◌∷◌, ◌++◌, append_assoc, append-nil}
use native.Mathlib.Omega.{arith}
use native.Mathlib.Nat.{pow-suc, mod-lt}
use lib.ListN.{length, drop, length-append}
use Rattle.std.specs.Int.{bytes_high_first}
use Rattle.octets.specs.Number.{value, Bytes}
use Rattle.octets.proofs.Below.{digits-none, digits-cons, digits_append}
use Rattle.octets.proofs.BigEndian.{high_first-suc, value-high_first}
use Rattle.prefix_bytes.specs.Entry.{big_endian, BytesReadBack}
use Rattle.output.specs.Writing.{Written}

pub length-bytes : (n v : ℕ) → length (big_endian n v) ≡ n
unfolding big_endian
length-bytes zero v = refl
length-bytes (suc n) v = length-append (big_endian n (v / 256)) (v % 256 ∷ []) ∙ omega (arith, length-bytes n (v / 256))

pub bytes_small : (n v : ℕ) → Bytes (big_endian n v)
unfolding big_endian
bytes_small zero v = digits-none 256
bytes_small (suc n) v =
    digits_append 256 (big_endian n (v / 256)) (v % 256 ∷ []) (bytes_small n (v / 256)) (digits-cons 256 (v % 256) [] (mod-lt v (omega arith)) (digits-none 256))

-- of two digits to the base 256 ^ m
pub bytes-joined : (n m h l : ℕ) → l < 256 ^ m → big_endian (n + m) (h * 256 ^ m + l) ≡ big_endian n h ++ big_endian m l
unfolding big_endian
bytes-joined n zero h l b =
    let e : n + 0 ≡ n = omega arith in
    let f : h * 1 + l ≡ h = omega (arith, b) in
    rw (e, f) (sym (append-nil (big_endian n h)))
bytes-joined n (suc m) h l b =
    let e : n + suc m ≡ suc (n + m) = omega arith in
    let x : h * (256 ^ m * 256) + l ≡ h * 256 ^ m * 256 + l = omega arith in
    let p : (h * 256 ^ m * 256 + l) / 256 ≡ h * 256 ^ m + l / 256 = omega arith in
    let q : (h * 256 ^ m * 256 + l) % 256 ≡ l % 256 = omega arith in
    let c : l < 256 ^ m * 256 = rw (pow-suc 256 m) at b in
    let g : l / 256 < 256 ^ m = omega arith in
    rw (e, pow-suc 256 m, x, p, q, bytes-joined n m h (l / 256) g) (append_assoc (big_endian n h) (big_endian m (l / 256)) (l % 256 ∷ []))

-- sixteen bytes in two halves
pub two-halves : (v : ℕ) → big_endian 16 v ≡ big_endian 8 (v / 18446744073709551616) ++ big_endian 8 (v % 18446744073709551616)
two-halves v =
    let e : v ≡ v / 18446744073709551616 * 18446744073709551616 + v % 18446744073709551616 = omega arith in
    ap (big_endian 16) e ∙ bytes-joined 8 8 (v / 18446744073709551616) (v % 18446744073709551616) (omega arith)

-- as std writes them
pub as_high_first : (n v : ℕ) → bytes_high_first n v ≡ big_endian n v
unfolding big_endian
as_high_first zero v = refl
as_high_first (suc n) v = high_first-suc n v ∙ ap (λ (s : List ℕ). s ++ (v % 256 ∷ [])) (as_high_first n (v / 256))

-- copied to the front of a buffer
pub copied : (n v : ℕ) (before : List ℕ) {copy bytes : List ℕ} → copy ≡ bytes → bytes ≡ bytes_high_first n v
    → Written (big_endian n v) before (copy ++ drop n before) n
copied n v before e f = record { size = sym (length-bytes n v); is = rw (e, f, as_high_first n v) }

-- a number is read back from its bytes
pub read_back : BytesReadBack
read_back n v h = ap value (sym (as_high_first n v)) ∙ value-high_first n v h
