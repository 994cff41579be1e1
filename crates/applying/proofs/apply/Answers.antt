use Rattle.applying.proofs.Applying.{reach_start, reach_end}
use Rattle.applying.proofs.apply.Goals as goal

pub loop-at-init : goal.loop-at-init
loop-at-init c = (reach_start _ c.requires.1, c.requires.0, c.requires.3)

pub returns-clause-applied : goal.returns-clause-applied
returns-clause-applied c = reach_end c.loop-at.invariant.0 c.loop-at-test.false
