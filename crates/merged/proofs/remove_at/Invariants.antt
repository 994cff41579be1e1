-- The starts behind the one taken out have moved down by one, up to i.
use Prim.Native.Nat.{suc, ◌-◌, ◌≤◌, ◌<◌}
use Rattle.merged.proofs.Index.{Moved}
use Rattle.merged.proofs.remove_at.Given as goal

abbrev pub invariant-loop-i : goal.invariant-loop-i
invariant-loop-i l = (l.at < l.i) × (l.i ≤ l.n) × Moved l.initial.index l.at (l.i - suc l.at) l.index

abbrev pub decreases-loop-i : goal.decreases-loop-i
decreases-loop-i l = l.n - l.i
