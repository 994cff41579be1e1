-- The groups of an IPv6 address: how many there are, and that each has 16 bits.
use Prim.Native.Nat.{ℕ, zero, suc, ◌*◌, ◌<◌}
use mathlib.Core.Path.{◌≡◌, refl, ap}
use mathlib.Core.List.{List, [], ◌∷◌}
use native.Mathlib.Omega.{arith}
use lib.ListN.{length}
use Rattle.octets.specs.Number.{Digits, Bytes}
use Rattle.octets.proofs.Below.{digits-rest}
use Rattle.ip_groups.specs.Groups.{groups_of}

-- the groups of twice so many bytes
pub groups-count : (n : ℕ) (a : List ℕ) → length a ≡ n * 2 → length (groups_of a) ≡ n
unfolding groups_of
groups-count zero [] e = refl
groups-count zero (h ∷ a) e = absurd (omega arith)
groups-count (suc n) [] e = absurd (omega arith)
groups-count (suc n) (h ∷ []) e = absurd (omega arith)
groups-count (suc n) (h ∷ l ∷ a) e = ap suc (groups-count n a (omega arith))

pub groups-below : (a : List ℕ) → Bytes a → Digits 65536 (groups_of a)
unfolding groups_of
groups-below [] b i h = absurd (omega arith)
groups-below (x ∷ []) b i h = absurd (omega arith)
groups-below (x ∷ y ∷ a) b zero h =
    let high : x < 256 = b 0 (omega arith) in
    let low : y < 256 = b 1 (omega arith) in
    omega arith
groups-below (x ∷ y ∷ a) b (suc i) h = groups-below a (digits-rest 256 y a (digits-rest 256 x (y ∷ a) b)) i (omega arith)
