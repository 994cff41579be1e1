use Prim.Native.Nat.{◌/◌, ◌<◌}
use native.Mathlib.Omega.{arith}
use native.Mathlib.Nat.{div-lt_self}
use Rattle.digits.proofs.Storing.{count-one, count-more}
use borrow.Author.Rules.{rules}
use Rattle.digits.proofs.count_digits.Goals as goal

pub loop-v-init : goal.loop-v-init
loop-v-init g c = (omega arith, omega arith)

pub loop-v-smaller : goal.loop-v-smaller
loop-v-smaller g c = div-lt_self (omega arith) (omega arith)

pub loop-v-preserved : goal.loop-v-preserved
loop-v-preserved g c =
    let a = c.args in
    let l = c.loop-v in
    let less : l.v / g.row.BASE < l.v = div-lt_self (omega arith) (omega arith) in
    (omega (arith, l.invariant.0), omega (arith, l.invariant.1, count-more g.row.BASE (search rules) l.v (search rules)))

pub returns : goal.returns
returns g c =
    let a = c.args in
    let l = c.loop-v in
    omega (arith, l.invariant.1, count-one g.row.BASE (search rules) l.v (search rules))
