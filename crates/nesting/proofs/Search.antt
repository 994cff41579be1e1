-- The search among the open blocks goes down from the innermost. `lasts d` is the last address of open block d.
use mathlib.Core.Path.{◌≡◌, sym, ◌∙◌, ap}
use mathlib.Core.Bool.{true, false, cond}
use Prim.Native.Nat.{ℕ, suc, ◌-◌, ◌≤◌, ◌<◌}
use native.Mathlib.Omega.{arith}
use lib.Dec.{leb}
use Rattle.address.specs.Ranges.{Range}
use Rattle.nesting.specs.Nest.{nest_of}
use Rattle.std.specs.Prelude.{Some, None}

module _ (lasts : ℕ → ℕ) (r : Range) (depth d : ℕ) (m : nest_of lasts r d ≡ nest_of lasts r depth) where
  pub nest-none : d ≤ 0 → Some 0 ≡ nest_of lasts r depth
  nest-none h =
      let e : d ≡ 0 = omega arith in
      rw e at m

  module _ (h : 0 < d) where
    unfolded : cond (leb r.first (lasts (d - 1))) (cond (leb r.last (lasts (d - 1))) (Some d) None) (nest_of lasts r (d - 1)) ≡ nest_of lasts r depth
    unfolded =
        let e : suc (d - 1) ≡ d = omega arith in
        ap (λ (n : ℕ). cond (leb r.first (lasts (d - 1))) (cond (leb r.last (lasts (d - 1))) (Some n) None) (nest_of lasts r (d - 1))) (sym e)
        ∙ ap (nest_of lasts r) e ∙ m

    pub nest_on : leb r.first (lasts (d - 1)) ≡ false → nest_of lasts r (d - 1) ≡ nest_of lasts r depth
    nest_on e = rw e at unfolded

    module _ (e : leb r.first (lasts (d - 1)) ≡ true) where
      pub nest-under : leb r.last (lasts (d - 1)) ≡ true → Some d ≡ nest_of lasts r depth
      nest-under f = rw (e, f) at unfolded

      pub nest-out : leb r.last (lasts (d - 1)) ≡ false → None ≡ nest_of lasts r depth
      nest-out f = rw (e, f) at unfolded
