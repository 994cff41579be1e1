-- Laws of an answer that may be missing: what its test says of it, by cases on the test.
use Rattle.std.specs.Prelude.{Option, None, Some}
use Prim.Native.Nat.{ℕ}
use mathlib.Core.Path.{◌≡◌, refl, sym}
use mathlib.Core.Bool.{Bool, true, false, cond}
use native.Mathlib.Omega.{arith}

module _ {A : Type 0} where
  pub none-some : {B : Type 0} (a : A) → ◌≡◌ {A = Option A} None (Some a) → B
  none-some a e = let z : ◌≡◌ {A = ℕ} 0 1 = cc in let f : ⊥ = omega arith in absurd f

  pub cond-some : (b : Bool) (x a : A) → cond b (Some x) None ≡ Some a → (b ≡ true) × (x ≡ a)
  cond-some true x a e = (refl, cc)
  cond-some false x a e = none-some a e

  pub cond-none : (b : Bool) (x : A) → cond b (Some x) None ≡ None → b ≡ false
  cond-none true x e = none-some x (sym e)
  cond-none false x e = refl
