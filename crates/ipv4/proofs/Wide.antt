-- Laws of lists of a known length: what is to have exactly n bytes has them, and four bytes are read one by one.
use Rattle.std.specs.Prelude.{Option, None, Some}
use Prim.Native.Nat.{ℕ}
use mathlib.Core.Path.{◌≡◌, refl}
use mathlib.Core.List.{List, [], ◌∷◌}
use native.Mathlib.Omega.{arith}
use lib.Dec.{eqb}
use lib.ListN.{length, get_or}
use borrow.Author.Tests.{eqb-true}
use Rattle.octets.proofs.Found.{none-some, cond-some}
use Rattle.ipv4.specs.Ipv4.{exactly}

pub exactly-wide : (n : ℕ) (o : Option (List ℕ)) (a : List ℕ) → exactly n o ≡ Some a → length a ≡ n
unfolding exactly
exactly-wide n None a e = none-some a e
exactly-wide n (Some x) a e =
    let q = cond-some (eqb (length x) n) x a e in
    rw (← q.1) (eqb-true (length x) n q.0)

pub four_of : (a : List ℕ) → length a ≡ 4 → get_or a 0 0 ∷ get_or a 1 0 ∷ get_or a 2 0 ∷ get_or a 3 0 ∷ [] ≡ a
four_of [] h = let z : ⊥ = omega arith in absurd z
four_of (x ∷ []) h = let z : ⊥ = omega arith in absurd z
four_of (x ∷ y ∷ []) h = let z : ⊥ = omega arith in absurd z
four_of (x ∷ y ∷ u ∷ []) h = let z : ⊥ = omega arith in absurd z
four_of (x ∷ y ∷ u ∷ v ∷ []) h = refl
four_of (x ∷ y ∷ u ∷ v ∷ w ∷ r) h = let z : ⊥ = omega arith in absurd z
