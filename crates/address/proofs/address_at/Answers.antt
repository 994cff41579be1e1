-- The bytes stand at the end of sixteen zeros.
use mathlib.Core.Path.{◌≡◌, ◌∙◌, ap}
use mathlib.Core.List.{List}
use Prim.Native.Nat.{ℕ, ◌+◌, ◌-◌}
use native.Mathlib.Omega.{arith}
use lib.ListN.{take, drop}
use Rattle.address.proofs.Padding.{padded}
use Rattle.address.proofs.address_at.Goals as goal

pub returns : goal.returns
returns c =
    let a = c.args in
    let e : a.at + a.width - a.at ≡ a.width = omega arith in
    let t : c.copy_from_slice.new.self ≡ take a.width (drop a.at a.s.now) = rw e at c.copy_from_slice.ensures.after in
    ap (λ (b : List ℕ). record { bytes = b }) (padded 16 a.width c.copy_from_slice.new.self (omega arith) ∙ rw t)
