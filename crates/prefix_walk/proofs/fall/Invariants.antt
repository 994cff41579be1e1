-- The loop's invariant: the bits that are left decide (Falling), the first entries are written (Entered), and the others are those of what is left.
use Rattle.prefix_walk.specs.Entries.{fallen, Falling, Entered}
use Rattle.prefix_walk.proofs.fall.Given as goal

abbrev pub invariant-loop-left : goal.invariant-loop-left
invariant-loop-left l = Falling l.width l.start l.left × Entered l.width (fallen l.initial.start l.initial.left) (fallen l.start l.left) l.initial.out l.out l.at l.n

abbrev pub decreases-loop-left : goal.decreases-loop-left
decreases-loop-left l = l.left
