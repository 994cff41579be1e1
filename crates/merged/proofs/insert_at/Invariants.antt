-- The starts from i on have moved up by one.
use Prim.Native.Nat.{◌≤◌}
use Rattle.merged.proofs.Index.{Shifted}
use Rattle.merged.proofs.insert_at.Given as goal

abbrev pub invariant-loop-i : goal.invariant-loop-i
invariant-loop-i l = (l.at ≤ l.i) × (l.i ≤ l.n) × Shifted l.initial.index l.n l.i l.index

abbrev pub decreases-loop-i : goal.decreases-loop-i
decreases-loop-i l = l.i
