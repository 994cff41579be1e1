-- The loop's invariant: the prefixes counted and those of the rest of the range are those of the range.
use Prim.Native.Nat.{suc, ◌+◌, ◌-◌, ◌≤◌}
use mathlib.Core.Path.{◌≡◌}
use lib.ListN.{length}
use Rattle.next_prefix.specs.Walked.{walked}
use Rattle.next_prefix.proofs.count.Given as goal

abbrev pub invariant-loop-p : goal.invariant-loop-p
invariant-loop-p l = (l.start ≤ l.last) × (l.n + length (walked l.start l.last) ≡ suc (length (walked l.initial.start l.last)))

abbrev pub decreases-loop-p : goal.decreases-loop-p
decreases-loop-p l = l.last - l.start
