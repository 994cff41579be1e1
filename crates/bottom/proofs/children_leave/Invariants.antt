-- `bottom::children_leave` meets its contract: the pass for a gap over the rest, from the first address that is free, gives the answer.
use Prim.Native.Nat.{◌-◌}
use Rattle.bottom.specs.Testing.{leaves_from}
use Rattle.bottom.proofs.Children.{Walking}
use Rattle.bottom.proofs.children_leave.Given as goal

abbrev pub invariant-loop-j : goal.invariant-loop-j
invariant-loop-j l = Walking l.image l.family l.i (leaves_from l.image l.family l.i l.initial.free l.limit) l.j l.end l.free l.limit

abbrev pub decreases-loop-j : goal.decreases-loop-j
decreases-loop-j l = l.end - l.j
