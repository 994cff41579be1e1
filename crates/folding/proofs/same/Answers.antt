use mathlib.Core.Path.{sym, ◌∙◌}
use Prim.Native.Nat.{◌-◌}
use native.Mathlib.Omega.{arith}
use lib.ListN.{length}
use Rattle.folding.proofs.Alike.{alike-length, alike-not, alike_on, alike-after, alike_end}
use Rattle.folding.proofs.same.Goals as goal

pub returns-then-n-b : goal.returns-then-n-b
returns-then-n-b c = alike-length _ _ _ c.if-n-b.true

pub returns-then-n-eq0 : goal.returns-then-n-eq0
returns-then-n-eq0 c =
    let a = c.args in
    sym (alike_end a.fold a.a.now a.b.now 0 (omega arith) (omega arith))

pub returns-then-not-same_byte : goal.returns-then-not-same_byte
returns-then-not-same_byte c =
    let a = c.args in
    let n = length a.a.now in
    alike-not a.fold a.a.now a.b.now (n - 1) (omega arith) (omega arith) (sym c.same_byte.ensures ∙ c.if-not-same_byte.true)

pub loop-i-init : goal.loop-i-init
loop-i-init c =
    let a = c.args in
    let e = c.same_eights-i.ensures in
    alike-after a.fold a.a.now a.b.now _ e.0 (omega arith) e.1

pub returns-then-not-same_byte-2 : goal.returns-then-not-same_byte-2
returns-then-not-same_byte-2 c =
    let a = c.args in
    alike-not a.fold a.a.now a.b.now c.loop-i.i (omega arith) (omega arith) (sym c.same_byte-in-loop-i.ensures ∙ c.if-not-same_byte-2.true)

pub loop-i-preserved : goal.loop-i-preserved
loop-i-preserved c =
    let a = c.args in
    let on = alike_on a.fold a.a.now a.b.now c.loop-i.i (omega arith) (omega arith) (sym c.same_byte-in-loop-i.ensures ∙ c.if-not-same_byte-2.false) in
    sym on ∙ c.loop-i.invariant

pub returns : goal.returns
returns c =
    let a = c.args in
    sym (alike_end a.fold a.a.now a.b.now c.loop-i.i (omega arith) (omega arith)) ∙ c.loop-i.invariant
