-- The pass over the rest of the run, from what is found so far, gives the answer.
use Prim.Native.Nat.{◌≤◌}
use Rattle.address.specs.Address.{numbers}
use Rattle.containment.specs.Tests.{surrounds_by}
use Rattle.scans.proofs.Walks.{blocks_left}
use Rattle.scans.proofs.Turns.{passed, Passing}
use Rattle.scans.proofs.find_around.Given as goal

abbrev pub invariant-loop-i : goal.invariant-loop-i
invariant-loop-i l = (l.fn.blocks.from ≤ l.i)
    × (l.i ≤ l.fn.blocks.until)
    × Passing l.first (λ b. surrounds_by l.strict b.range (numbers l.range)) (blocks_left l.image l.fn.blocks.low l.i) l.found (passed l.first l.strict l.image l.fn.blocks l.range)
