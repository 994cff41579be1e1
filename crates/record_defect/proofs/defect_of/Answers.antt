-- By the test.
use mathlib.Core.Path.{sym, ◌∙◌}
use Rattle.record_defect.proofs.defect_of.Goals as goal

pub returns-then-is_whole : goal.returns-then-is_whole
returns-then-is_whole c = rw (sym c.is_whole.ensures ∙ c.if-is_whole.true)

pub returns-else-is_whole : goal.returns-else-is_whole
returns-else-is_whole c = rw (sym c.is_whole.ensures ∙ c.if-is_whole.false)
