-- The changes applied, and the record at a number (Changes.antt, Numbered.antt).
use mathlib.Core.Path.{◌∙◌}
use Rattle.merged.proofs.Started.{is_read}
use Rattle.final_list.proofs.Numbered.{record_refused, record_none, record_found}
use Rattle.final_list.proofs.record_after.Goals as goal

pub returns-in_default : goal.returns-in_default
returns-in_default c = record_refused _ _ _ (is_read c.requires) _ c.in_default.ensures.changed.0

pub returns-then-records-number : goal.returns-then-records-number
returns-then-records-number c =
    let z = c.in-Ok.ensures.changed in
    record_none _ _ _ (is_read c.requires) c.changed.new.records z.1 z.0 c.if-records-number.true

pub record-requires : goal.record-requires
record-requires c = (c.if-records-number.false, c.in-Ok.ensures.changed.1)

pub returns : goal.returns
returns c =
    let z = c.in-Ok.ensures.changed in
    c.record.ensures.is ∙ record_found _ _ _ (is_read c.requires) c.changed.new.records z.1 z.0 c.if-records-number.false
