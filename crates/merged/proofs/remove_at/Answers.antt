use mathlib.Core.Path.{◌≡◌, ◌∙◌}
use Prim.Native.Nat.{suc, ◌+◌, ◌-◌}
use native.Mathlib.Omega.{arith}
use Rattle.merged.proofs.Index.{move_start, move-next, move-length, move-done}
use Rattle.merged.proofs.remove_at.Goals as goal

pub loop-i-init : goal.loop-i-init
loop-i-init c =
    let e : c.args.at + 1 - suc c.args.at ≡ 0 = omega arith in
    (omega arith, omega (arith, c.requires.2), rw e (move_start _ _))

pub bounds-index-i : goal.bounds-index-i
bounds-index-i c = omega (arith, c.requires.1, c.loop-i-test.true)

pub overflow_sub-index : goal.overflow_sub-index
overflow_sub-index c = omega (arith, c.loop-i.invariant.0)

pub bounds-index-i-in-loop-i : goal.bounds-index-i-in-loop-i
bounds-index-i-in-loop-i c = omega (arith, c.requires.1, c.loop-i-test.true)

pub loop-i-preserved : goal.loop-i-preserved
loop-i-preserved c =
    let l = c.loop-i in (
      omega (arith, l.invariant.0),
      omega (arith, c.loop-i-test.true),
      move-next _ c.args.at l.i _ l.invariant.0 l.invariant.2 (omega (arith, c.loop-i-test.true, c.requires.0, c.requires.1)),
    )

pub returns : goal.returns
returns c =
    let l = c.loop-i in
    let e : l.i ≡ c.args.n = omega (arith, l.invariant.1, c.loop-i-test.false) in
    let m = rw e at l.invariant.2 in
    record {
      first = move-done _ c.args.at c.args.n _ c.requires.2 (omega (arith, c.requires.0, c.requires.1)) m;
      full = move-length _ c.args.at (c.args.n - suc c.args.at) _ m (omega (arith, c.requires)) ∙ c.requires.0;
    }
