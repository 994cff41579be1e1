use mathlib.Core.Path.{◌∙◌}
use native.Mathlib.Omega.{arith}
use Rattle.fields.proofs.Fields.{stops, steps, none_left}
use Rattle.fields.proofs.position_after.Goals as goal

pub returns-in_default : goal.returns-in_default
returns-in_default c = stops c.args.image.now _ _ _ c.step_at.ensures _ c.in_default.is ∙ c.loop.invariant

pub loop-preserved : goal.loop-preserved
loop-preserved c = steps c.args.image.now _ _ _ c.step_at.ensures _ _ _ c.in-Some.is (omega arith) ∙ c.loop.invariant

pub returns : goal.returns
returns c = none_left c.args.image.now _ _ _ _ _ (omega arith) c.loop.invariant
