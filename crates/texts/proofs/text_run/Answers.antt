use mathlib.Core.Path.{refl}
use native.Mathlib.Omega.{arith}
use lib.Seq.{take_all}
use Rattle.octets.specs.Lists.{every}
use Rattle.texts.proofs.Texts.{text-step}
use Rattle.texts.proofs.text_run.Goals as goal

pub loop-b-init : goal.loop-b-init
unfolding every
loop-b-init c = refl

pub loop-b-preserved : goal.loop-b-preserved
loop-b-preserved c = text-step _ _ _ _ (omega arith) c.loop-b.invariant

pub returns : goal.returns
returns c =
    let s = c.args.s.now in
    rw (take_all c.loop-b.b-index s (omega arith)) at c.loop-b.invariant
