use mathlib.Core.Path.{◌≡◌, refl}
use native.Mathlib.Omega.{arith}
use Rattle.texts.specs.Run.{run}
use Rattle.hosts.proofs.Hosts as hosts
use Rattle.hosts.proofs.host_run.Goals as goal

pub loop-i-init : goal.loop-i-init
unfolding run
loop-i-init c = refl

pub loop-i-preserved : goal.loop-i-preserved
loop-i-preserved c = hosts.host-step _ _ _ _ _ _ c.requires.0 c.loop-i.invariant c.may_follow-good.ensures

pub returns : goal.returns
returns c =
    let e : c.loop-i.i ≡ c.args.n = omega arith in
    rw e at c.loop-i.invariant
