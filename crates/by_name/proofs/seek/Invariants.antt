-- The loop: the records before low come before what is wanted, those from high on behind it, and fewer than 2 ^ (13 - steps) are left.
use Prim.Native.Nat.{◌-◌}
use Rattle.halves.proofs.Halves.{Halved}
use Rattle.by_name.proofs.Seeking.{Before, Behind, Left}
use Rattle.by_name.proofs.seek.Given as goal

abbrev pub invariant-loop-low : goal.invariant-loop-low
invariant-loop-low l = Halved (Before l.image l.starts l.which l.wanted) (Behind l.image l.starts l.which l.wanted) l.initial.low l.initial.high l.low l.high × Left l.steps (l.high - l.low)

abbrev pub decreases-loop-low : goal.decreases-loop-low
decreases-loop-low l = l.high - l.low
