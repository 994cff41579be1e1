-- The length of the file, then its changes (Changes.antt).
use borrow.Author.Rules.{rules}
use native.Mathlib.Omega.{arith}
use Rattle.image.proofs.Soundness.{few-records}
use Rattle.merged.proofs.Started.{index_merged}
use Rattle.final_list.proofs.Changes.{changed-to, changed-long, same-files}
use Rattle.final_list.proofs.changed.Goals as goal

pub returns-then-records-gt-MOST_CHANGES-clause-changed : goal.returns-then-records-gt-MOST_CHANGES-clause-changed
returns-then-records-gt-MOST_CHANGES-clause-changed c = (changed-long _ _ c.if-records-gt-MOST_CHANGES.true, omega arith)

pub note_starts-requires : goal.note_starts-requires
note_starts-requires c = (few-records _ _ c.requires.sound, c.requires.full, search rules)

pub apply-requires : goal.apply-requires
apply-requires c = (
  index_merged _ _ c.requires c.note_starts.ensures.first c.note_starts.ensures.full,
  few-records _ _ c.requires.sound,
  c.if-records-gt-MOST_CHANGES.false,
  c.requires.full,
)

pub returns-clause-changed : goal.returns-clause-changed
returns-clause-changed c =
    changed-to _ _ c.requires c.note_starts.ensures.first c.if-records-gt-MOST_CHANGES.false c.apply.result c.apply.ensures.applied c.apply.ensures.merged

pub returns-clause-same : goal.returns-clause-same
returns-clause-same c =
    let f = same-files _ _ c.apply.result c.apply.ensures.applied in
    record { image = f.image; changes = f.changes }

pub returns-clause-full : goal.returns-clause-full
returns-clause-full c = c.apply.ensures.merged.full
