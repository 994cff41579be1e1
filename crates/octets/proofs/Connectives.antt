-- Laws of tests that are joined by "and" or by "or", and of a byte from low to high: by cases on the first test.
use Prim.Native.Nat.{ℕ, ◌≤◌}
use mathlib.Core.Path.{◌≡◌, refl, sym}
use mathlib.Core.Bool.{Bool, true, false, false≢true, ◌&&◌, ◌||◌}
use lib.Dec.{leb}
use borrow.Author.Tests.{leb-true}
use Rattle.octets.specs.Lists.{within}

pub and_left : (a b : Bool) → a && b ≡ true → a ≡ true
and_left true b e = refl
and_left false b e = e

pub and_right : (a b : Bool) → a && b ≡ true → b ≡ true
and_right true b e = e
and_right false b e = absurd (false≢true e)

pub and-false : (a : Bool) → a && false ≡ false
and-false true = refl
and-false false = refl

pub or_true : (a : Bool) → a || true ≡ true
or_true true = refl
or_true false = refl

pub or_false : (a : Bool) → a || false ≡ a
or_false true = refl
or_false false = refl

pub neither : (a b : Bool) → a || b ≡ false → (a ≡ false) × (b ≡ false)
neither true b e = absurd (false≢true (sym e))
neither false b e = (refl, e)

module _ (low high c : ℕ) (e : within low high c ≡ true) where
  pub within_low : low ≤ c
  within_low = leb-true low c (and_left (leb low c) (leb c high) e)

  pub within-high : c ≤ high
  within-high = leb-true c high (and_right (leb low c) (leb c high) e)
