use mathlib.Core.Path.{◌∙◌}
use native.Mathlib.Omega.{arith}
use lib.ListN.{get_or, length-set}
use Rattle.ip_groups.proofs.Arrays.{octets-next, octets-all}
use Rattle.ip_groups.proofs.octets_of.Goals as goal

pub loop-i-preserved : goal.loop-i-preserved
loop-i-preserved c =
    let a = c.args in
    let l = c.loop-i in (
      length-set l.octets l.i (get_or a.bytes.now l.i 0) ∙ l.invariant.0,
      octets-next a.bytes.now l.octets l.i (omega arith) (omega arith) l.invariant.1,
    )

pub returns : goal.returns
returns c =
    let a = c.args in
    let l = c.loop-i in
    octets-all a.bytes.now l.octets l.i 4 c.requires l.invariant.0 (omega arith) l.invariant.1
