-- The records before i do not overlap, and the open blocks stand for them (Scans.antt).
use Rattle.overlaps.proofs.Scans.{Scanned}
use Rattle.overlaps.proofs.first_overlap.Given as goal

abbrev pub invariant-loop-i : goal.invariant-loop-i
invariant-loop-i l = Scanned l.records l.stack l.depth l.family l.i
