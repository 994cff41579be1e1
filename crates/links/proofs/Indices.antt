-- Nested blocks by index: of two, the one with the lower index is strictly around the other or wholly left of it.
use Prim.Native.Nat.{ℕ, zero, suc, ◌≤◌, ◌<◌}
use mathlib.Core.Path.{◌≡◌, refl}
use mathlib.Core.List.Memᴰ
use mathlib.Core.List.{List, [], ◌∷◌}
use native.Mathlib.Omega.{arith}
use native.Mathlib.Decide.{dec_lt}
use lib.ListN.{length}
use Rattle.octets.specs.Lists.{◌∈◌}
use Rattle.forest.specs.Blocks.{Block}
use Rattle.address.proofs.Geometry.{Proper, Strictly}
use Rattle.forest.proofs.Laminar.{Laminar, empty, cons, Before, around, left, is-proper}
use Rattle.links.specs.Links.{nth}

nth_in : (bs : List Block) (k : ℕ) → k < length bs → nth bs k ∈ bs
nth_in [] k h = absurd (omega (arith, h))
nth_in (b ∷ bs) zero h = Memᴰ.head refl
nth_in (b ∷ bs) (suc k) h = Memᴰ.tail (nth_in bs k (omega (arith, h)))

pub nth-proper : {bs : List Block} → Laminar bs → (k : ℕ) → k < length bs → Proper (nth bs k).range
nth-proper {bs} l k h = is-proper l (nth_in bs k h)

pub nth-before : {bs : List Block} → Laminar bs → (i j : ℕ) → i < j → j < length bs → Before (nth bs i) (nth bs j)
nth-before empty i j h k = absurd (omega (arith, k))
nth-before (cons p f l) zero zero h k = absurd (omega arith)
nth-before (cons p f l) (suc i) zero h k = absurd (omega arith)
nth-before (cons {bs = bs} p f l) zero (suc j) h k = f (nth bs j) (nth_in bs j (omega (arith, k)))
nth-before (cons p f l) (suc i) (suc j) h k = nth-before l i j (omega arith) (omega (arith, k))

module _ {bs : List Block} (l : Laminar bs) where
  -- firsts do not fall
  pub first-rises : (i j : ℕ) → i ≤ j → j < length bs → (nth bs i).range.first ≤ (nth bs j).range.first
  first-rises i j h k = go (dec_lt i j)
    where
      by : Before (nth bs i) (nth bs j) → Proper (nth bs i).range → (nth bs i).range.first ≤ (nth bs j).range.first
      by (around n s) p = omega arith
      by (left n s) p = omega arith

      go : Dec (i < j) → (nth bs i).range.first ≤ (nth bs j).range.first
      go (yes m) = by (nth-before l i j m k) (nth-proper l i (omega arith))
      go (no m) = let e : i ≡ j = omega arith in rw e (omega arith)

  -- a later block that begins inside block i lies strictly inside it
  pub begins-inside : (i j : ℕ) → i < j → j < length bs → (nth bs j).range.first ≤ (nth bs i).range.last → Strictly (nth bs i).range (nth bs j).range
  begins-inside i j h k b = go (nth-before l i j h k)
    where
      go : Before (nth bs i) (nth bs j) → Strictly (nth bs i).range (nth bs j).range
      go (around n s) = s
      go (left n s) = absurd (omega arith)
