-- The test of the tag chooses whether there is a range, as the definition does.
use mathlib.Core.Path.{sym, ◌∙◌}
use Rattle.records.specs.Positions.{range_span}
use Rattle.records.proofs.Layouts.{no-span}
use Rattle.records.proofs.range_span.Goals as goal

pub returns-then-is_block : goal.returns-then-is_block
unfolding range_span
returns-then-is_block c = c.inner_span.ensures ∙ rw (sym c.is_block.ensures ∙ c.if-is_block.true)

pub returns-else-is_block : goal.returns-else-is_block
unfolding range_span
returns-else-is_block c = rw (sym c.is_block.ensures ∙ c.if-is_block.false) (no-span c.default.ensures)
