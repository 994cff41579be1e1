use mathlib.Core.Path.{refl, ◌∙◌}
use native.Mathlib.Omega.{arith}
use lib.ListN.{length-set}
use Rattle.output.proofs.Writing.{written-nothing}
use Rattle.formats.proofs.Names.{name-next, name-written}
use Rattle.formats.proofs.put_name.Goals as goal

pub loop-i-init : goal.loop-i-init
loop-i-init c = (refl, written-nothing _)

pub loop-i-preserved : goal.loop-i-preserved
loop-i-preserved c =
    let a = c.args in
    let l = c.loop-i in
    (length-set l.out l.i _ ∙ l.invariant.0, name-next a.format a.handle.now c.loop-i-test.true (omega arith) c.name_byte.ensures l.invariant.1)

pub returns : goal.returns
returns c = name-written c.args.format c.args.handle.now (omega arith) c.loop-i.invariant.1
