-- The loop's invariant: the first entries are written (Entered), and the others are those of the rest of the range.
use Prim.Native.Nat.{◌-◌, ◌≤◌}
use Rattle.next_prefix.specs.Walked.{walked}
use Rattle.prefix_walk.specs.Entries.{Entered}
use Rattle.prefix_walk.proofs.climb.Given as goal

abbrev pub invariant-loop-first : goal.invariant-loop-first
invariant-loop-first l = (l.start ≤ l.last) × Entered l.width (walked l.initial.start l.last) (walked l.start l.last) l.initial.out l.out l.at l.n

abbrev pub decreases-loop-first : goal.decreases-loop-first
decreases-loop-first l = l.last - l.start
