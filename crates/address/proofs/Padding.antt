-- Zeros whose end is replaced by a list are the zeros before it and the list.
use mathlib.Core.Path.{◌≡◌, refl, ap}
use mathlib.Core.List.{List, ◌∷◌, ◌++◌, append-nil}
use Prim.Native.Nat.{ℕ, zero, suc, ◌-◌, ◌≤◌}
use native.Mathlib.Nat.{le_of_suc-le-suc, not-suc-le-zero}
use native.Mathlib.Omega.{arith}
use borrow.Rule.Slice.PartMut.{put_mid}
use lib.ListN.{length, take, drop, replicate, drop_of_length-le, length-drop, length-replicate}

take-replicate : (n m v : ℕ) → n ≤ m → take n (replicate m v) ≡ replicate n v
take-replicate zero m v h = refl
take-replicate (suc n) zero v h = absurd (not-suc-le-zero h)
take-replicate (suc n) (suc m) v h = ap (v ∷◌) (take-replicate n m v (le_of_suc-le-suc h))

pub padded : (n w : ℕ) (t : List ℕ) → w ≤ n → put_mid (n - w) (n - (n - w)) (replicate n 0) t ≡ replicate (n - w) 0 ++ t
padded n w t h =
    let zeros : List ℕ = replicate n 0 in
    let l : length (drop (n - w) zeros) ≤ n - (n - w) = omega (arith, length-drop (n - w) zeros, length-replicate {A = ℕ} n 0) in
    rw (take-replicate (n - w) n 0 (omega arith), drop_of_length-le (drop (n - w) zeros) l) (ap (λ (u : List ℕ). replicate (n - w) 0 ++ u) (append-nil t))
