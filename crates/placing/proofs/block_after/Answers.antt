-- The sorting first, then the open blocks.
use mathlib.Core.Path.{sym, ◌∙◌}
use Rattle.placing.proofs.block_after.Goals as goal

pub returns-then-not-range_after : goal.returns-then-not-range_after
returns-then-not-range_after c = rw (sym c.range_after.ensures ∙ c.if-not-range_after.true)
