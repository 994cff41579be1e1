-- What is written so far, followed by the records that are left, is the whole.
use Prim.Native.Nat.{◌-◌, ◌≤◌}
use Rattle.output.specs.Writing.{Reached}
use Rattle.merged.specs.Listed.{row_in}
use Rattle.stretches.specs.Stretches.{row_from}
use Rattle.stretches.proofs.put_records.Given as goal

abbrev pub invariant-loop-i : goal.invariant-loop-i
invariant-loop-i l = (l.i ≤ l.records.count) × Reached (row_in l.records) (row_from l.records l.i) l.initial.out l.out l.at

abbrev pub decreases-loop-i : goal.decreases-loop-i
decreases-loop-i l = l.records.count - l.i
