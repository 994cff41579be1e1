-- Each change moves the position on by three bytes at least, and never past the file's end.
use Rattle.std.proofs.Common.{◌-◌, ◌≤◌, length}
use Rattle.rdap_fold.proofs.number_at.Given as goal

abbrev pub invariant-loop-at : goal.invariant-loop-at
invariant-loop-at l = record { few : l.n ≤ l.at; inside : l.at ≤ length l.changes }

abbrev pub decreases-loop-at : goal.decreases-loop-at
decreases-loop-at l = l.offset - l.at
