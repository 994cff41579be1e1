-- `scans::any_inside` meets its contract: the blocks that are still to come have the answer of all.
use Prim.Native.Nat.{◌≤◌}
use mathlib.Core.Path.{◌≡◌}
use Rattle.octets.specs.Lists.{any}
use Rattle.address.specs.Address.{numbers}
use Rattle.address.specs.Ranges.{strictly_inside}
use Rattle.scans.specs.Standing.{blocks_in}
use Rattle.scans.proofs.Walks.{blocks_left}
use Rattle.scans.proofs.any_inside.Given as goal

abbrev pub invariant-loop-i : goal.invariant-loop-i
invariant-loop-i l = (l.fn.blocks.from ≤ l.i)
    × (l.i ≤ l.fn.blocks.until)
    × (any (λ b. strictly_inside b.range (numbers l.range)) (blocks_left l.image l.fn.blocks.low l.i)
    ≡ any (λ b. strictly_inside b.range (numbers l.range)) (blocks_in l.image l.fn.blocks.low))
