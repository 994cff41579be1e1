use native.Mathlib.Omega.{arith}
use Rattle.scans.proofs.Walks.{run-start, run_end, within, Here, comparable}
use Rattle.scans.proofs.Turns.{any-stop, any_found, any_missed}
use Rattle.scans.proofs.any_inside.Goals as goal
use Rattle.scans.proofs.any_inside.Goals.{After-range_start-start}

-- the record of this turn
here : (c : After-range_start-start) → let a = c.args in
    Here a.image.now a.starts.now a.blocks a.range c.loop-i.i c.range_start-start.result c.width_of-width.result
here c =
    record {
      asked = c.requires;
      low = c.loop-i.invariant.0;
      high = c.loop-i-test.true;
      start = c.range_start-start.ensures;
      wide = c.width_of-width.ensures.0;
    }

pub loop-i-init : goal.loop-i-init
loop-i-init c = (omega arith, c.requires.selected.run_of.forward, rw (run-start c.requires))

pub range_start-start-requires : goal.range_start-start-requires
range_start-start-requires c = within c.requires c.loop-i.invariant.0 c.loop-i-test.true

pub at_least_at-requires : goal.at_least_at-requires
at_least_at-requires c = let k = comparable (here (goal.at.at_least_at-requires c).After-range_start-start) in (k.wide, omega (arith, k.fits))

pub returns-then-not-at_least_at : goal.returns-then-not-at_least_at
returns-then-not-at_least_at c = any-stop (here (goal.at.returns-then-not-at_least_at c).After-range_start-start) c.at_least_at.ensures (c.if-not-at_least_at.true) c.loop-i.invariant.2

pub strictly_inside-requires : goal.strictly_inside-requires
strictly_inside-requires c = comparable (here (goal.at.strictly_inside-requires c).After-range_start-start)

pub returns-then-strictly_inside : goal.returns-then-strictly_inside
returns-then-strictly_inside c = any_found (here (goal.at.returns-then-strictly_inside c).After-range_start-start) c.strictly_inside.ensures c.loop-i.invariant.2 c.if-strictly_inside.true

pub loop-i-preserved : goal.loop-i-preserved
loop-i-preserved c =
    (omega arith, omega arith, any_missed (here (goal.at.loop-i-preserved c).After-range_start-start) c.strictly_inside.ensures c.loop-i.invariant.2 c.if-strictly_inside.false)

pub returns : goal.returns
returns c = rw (run_end c.requires c.loop-i.i c.loop-i-test.false c.loop-i.invariant.1) at c.loop-i.invariant.2
