-- The length, then the overlaps, then the count (Verdicts.antt).
use native.Mathlib.Omega.{arith}
use Rattle.merged.proofs.Numbered.{count-is}
use Rattle.overlaps.proofs.Verdicts.{too_long, overlapping, too_many, no-defect}
use Rattle.overlaps.proofs.final_verdict.Goals as goal

pub returns-then-size-gt-MOST_IMAGE : goal.returns-then-size-gt-MOST_IMAGE
returns-then-size-gt-MOST_IMAGE c = too_long _ _ c.requires.1 _ c.requires.2 c.if-size-gt-MOST_IMAGE.true _ c.at.ensures

pub first_overlap-requires : goal.first_overlap-requires
first_overlap-requires c = (c.requires.0, omega arith, omega arith)

pub overflow_cast-k : goal.overflow_cast-k
overflow_cast-k c = omega (arith, c.in-Some.ensures.0)

pub returns-in-Some : goal.returns-in-Some
returns-in-Some c =
    overlapping _ _ c.requires.1 _ c.requires.2 (omega (arith, c.if-size-gt-MOST_IMAGE.false)) c.requires.0.held.good c.args.records.now.count _ (count-is c.requires.0) _ c.in-Some.ensures _ c.at-in-Some.ensures

pub returns-then-records-gt-MOST_RECORDS : goal.returns-then-records-gt-MOST_RECORDS
returns-then-records-gt-MOST_RECORDS c =
    too_many _ _ c.requires.1 _ c.requires.2 (omega (arith, c.if-size-gt-MOST_IMAGE.false)) c.requires.0.held.good c.args.records.now.count _ (count-is c.requires.0) c.in_default.ensures (omega arith) (omega arith) _ c.at-then-records-gt-MOST_RECORDS.ensures

pub returns : goal.returns
returns c =
    no-defect _ _ c.requires.1 _ c.requires.2 (omega (arith, c.if-size-gt-MOST_IMAGE.false)) c.requires.0.held.good c.args.records.now.count _ (count-is c.requires.0) c.in_default.ensures (omega arith)
