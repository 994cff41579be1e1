-- The test of the tag chooses the number of fields before it, as the definition does.
use mathlib.Core.Path.{◌≡◌, sym, ◌∙◌}
use mathlib.Core.Bool.{cond}
use Rattle.registry.specs.Tags.{is_block}
use Rattle.records.specs.Positions.{name_span}
use Rattle.records.proofs.name_span.Goals as goal
use Rattle.records.proofs.name_span.Goals.{then-is_block, else-is_block}

pub returns : goal.returns
unfolding name_span
returns c =
    let before : c.if-is_block.before ≡ cond (is_block c.args.field.tag) 2 1 =
    elim c.if-is_block.branch [
      | then-is_block w ↦ rw (sym c.is_block.ensures ∙ w.if-is_block.true) w.before-is
      | else-is_block w ↦ rw (sym c.is_block.ensures ∙ w.if-is_block.false) w.before-is
    ] in
    c.inner_span.ensures ∙ rw before
