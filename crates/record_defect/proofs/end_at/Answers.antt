-- What the reader finds decides (Passing.antt).
use mathlib.Core.Path.{sym, ◌∙◌}
use Rattle.fields.proofs.Fields.{front_at}
use Rattle.record_defect.proofs.Passing.{no-field, other-field, field-ends}
use Rattle.record_defect.proofs.end_at.Goals as goal

pub returns-in_err-field : goal.returns-in_err-field
returns-in_err-field c =
    rw c.from_residual.ensures (no-field c.args.image.now c.args.end c.args.tag c.args.at (sym (c.in_err-field.ensures ∙ front_at _ _ _ c.requires)))

pub returns-then-field-tag : goal.returns-then-field-tag
returns-then-field-tag c =
    other-field c.args.image.now c.args.end c.args.tag c.args.at _ (sym (c.in_ok-field.ensures ∙ front_at _ _ _ c.requires)) c.if-field-tag.true

pub returns : goal.returns
returns c =
    field-ends c.args.image.now c.args.end c.args.tag c.args.at _ (sym (c.in_ok-field.ensures ∙ front_at _ _ _ c.requires)) c.if-field-tag.false
