-- The fields, read one after another, end with the record exactly if it is whole (Passing.antt).
use mathlib.Core.Path.{◌≡◌, ◌∙◌}
use lib.Dec.{eqb}
use lib.Seq.{slice}
use Rattle.std.specs.Prelude.{Some}
use Rattle.std.specs.Option.{option_eq}
use Rattle.records.specs.Record.{is_whole, record_of}
use Rattle.record_defect.proofs.Passing.{named-is, block-is}
use Rattle.record_defect.proofs.is_whole.Goals as goal
use Rattle.record_defect.proofs.is_whole.Goals.{then-field-gt-AS_BLOCK, else-field-gt-AS_BLOCK}

pub returns : goal.returns
returns c =
    let a = c.args in
    let judged : option_eq eqb c.if-field-gt-AS_BLOCK.last (Some a.field.end) ≡ is_whole (record_of a.field.tag (slice a.field.start a.field.end a.image.now)) =
    elim c.if-field-gt-AS_BLOCK.branch [
      | then-field-gt-AS_BLOCK w ↦ rw (w.last-is, w.texts_end-last.ensures) (named-is a.image.now a.field.tag a.field.start a.field.end c.requires.0 c.requires.1 w.if-field-gt-AS_BLOCK.true)
      | else-field-gt-AS_BLOCK w ↦ rw (w.last-is, w.block_end-last.ensures) (block-is a.image.now a.field.tag a.field.start a.field.end c.requires.0 c.requires.1 c.requires.2 w.if-field-gt-AS_BLOCK.false)
    ] in
    c.eq.ensures ∙ judged
