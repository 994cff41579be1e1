-- Each return is the field step by its tests (Fields.antt).
use native.Mathlib.Omega.{arith}
use Rattle.fields.proofs.Fields.{no-head, too_long, whole}
use Rattle.fields.proofs.step_at.Goals as goal

pub returns-then-image-at : goal.returns-then-image-at
returns-then-image-at c = no-head _ _ _ (omega arith)

pub returns-then-image-start : goal.returns-then-image-start
returns-then-image-start c = no-head _ _ _ (omega arith)

pub returns-then-image-end : goal.returns-then-image-end
returns-then-image-end c = too_long _ _ _ _ _ c.from-high.ensures c.from-low.ensures (omega arith) (omega arith)

pub returns : goal.returns
returns c = whole _ _ _ _ _ c.from-high.ensures c.from-low.ensures (omega arith) (omega arith)
