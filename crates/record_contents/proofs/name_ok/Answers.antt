-- The test of the tag chooses the rule, as in the definition.
use mathlib.Core.Path.{◌∙◌}
use Rattle.fields.specs.Slices.{part_slice}
use Rattle.records.specs.Record.{good_name}
use Rattle.record_contents.proofs.name_ok.Goals as goal

pub returns-then-tag : goal.returns-then-tag
unfolding good_name
returns-then-tag c =
    c.host_ok.ensures ∙ rw (part_slice c.args.start c.args.end c.args.image.now c.requires.0, c.if-tag.true)

pub returns : goal.returns
unfolding good_name
returns c =
    c.name_ok.ensures ∙ rw (part_slice c.args.start c.args.end c.args.image.now c.requires.0, c.if-tag.false)
