use mathlib.Core.Path.{◌∙◌}
use native.Mathlib.Omega.{arith}
use lib.ListN.{length-set}
use Rattle.image.specs.Index.{Selected}
use Rattle.output.proofs.Emit.{one_more}
use Rattle.search.proofs.Picks.{few, in_image, text-inside, turn, before-run, all_found}
use Rattle.by_pattern.proofs.collect.Goals as goal
use Rattle.by_pattern.proofs.collect.Goals.{In-loop-i, then-picked, else-picked}

pub loop-i-init : goal.loop-i-init
loop-i-init c =
    let pre = c.requires in
    (pre.1, omega arith, pre.0.run_of.forward, omega arith, before-run pre.0 c.args.which _ _ _)

-- the run, at a turn
chosen : (c : In-loop-i)
    → let a = c.args in Selected a.image.now a.starts.now a.run
chosen c = c.requires.0

pub bounds-starts-i : goal.bounds-starts-i
bounds-starts-i c = omega (arith, few (chosen (goal.at.bounds-starts-i c).In-loop-i))

pub overflow_cast-at-in-loop-i : goal.overflow_cast-at-in-loop-i
overflow_cast-at-in-loop-i c = omega (arith, in_image (chosen (goal.at.overflow_cast-at-in-loop-i c).In-loop-i) c.loop-i.i (omega arith))

pub picked-requires : goal.picked-requires
picked-requires c = text-inside (chosen (goal.at.picked-requires c).In-loop-i) c.loop-i.i (omega arith) _

pub bounds-hits-n : goal.bounds-hits-n
bounds-hits-n c = omega (arith, few (chosen (goal.at.bounds-hits-n c).In-loop-i))

pub loop-i-preserved : goal.loop-i-preserved
loop-i-preserved c =
    let walk = c.loop-i in
    let full = walk.invariant.0 in
    let small = few (chosen (goal.at.loop-i-preserved c).In-loop-i) in
    let next = turn (chosen (goal.at.loop-i-preserved c).In-loop-i) _ _ _ _ walk.i (omega arith) (omega arith) c.picked.ensures in
    elim c.if-picked.branch [
      | then-picked w ↦ (
        rw w.hits-is (simp length-set full),
        omega arith,
        omega arith,
        omega arith,
        rw (w.hits-is, w.n-is) (one_more walk.hits walk.n walk.i (next ∙ rw w.if-picked.true) (omega arith) walk.invariant.4),
      )
      | else-picked w ↦ (
        rw w.hits-is full,
        omega arith,
        omega arith,
        omega arith,
        rw (w.hits-is, w.n-is) (rw (next, w.if-picked.false) at walk.invariant.4),
      )
    ]

pub returns : goal.returns
returns c =
    let walk = c.loop-i in
    let small = few c.requires.0 in
    record {
      full = walk.invariant.0;
      few = omega arith;
      same = all_found c.requires.0 c.args.which _ _ _ walk.i (omega arith) walk.invariant.4;
    }
