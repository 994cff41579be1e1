-- The test of the tag chooses the number of fields before it, as the definition does.
use mathlib.Core.Path.{◌≡◌, sym, ◌∙◌}
use mathlib.Core.Bool.{cond}
use Rattle.registry.specs.Tags.{is_block}
use Rattle.records.specs.Positions.{handle_span}
use Rattle.records.proofs.handle_span.Goals as goal
use Rattle.records.proofs.handle_span.Goals.{then-is_block, else-is_block}

pub returns : goal.returns
unfolding handle_span
returns c =
    let before : c.if-is_block.before ≡ cond (is_block c.args.field.tag) 1 0 =
    elim c.if-is_block.branch [
      | then-is_block w ↦ rw (sym c.is_block.ensures ∙ w.if-is_block.true) w.before-is
      | else-is_block w ↦ rw (sym c.is_block.ensures ∙ w.if-is_block.false) w.before-is
    ] in
    c.inner_span.ensures ∙ rw before
