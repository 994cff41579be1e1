-- The runs from place i on.
use Prim.Native.Nat.{◌≤◌}
use lib.ListN.{length}
use Rattle.ip_groups.proofs.Runs.{RunsFrom}
use Rattle.ip_groups.proofs.zero_runs.Given as goal

abbrev pub invariant-loop-i : goal.invariant-loop-i
invariant-loop-i l = (l.i ≤ length l.groups) × RunsFrom l.groups l.i l.first l.longest l.at

abbrev pub decreases-loop-i : goal.decreases-loop-i
decreases-loop-i l = l.i
