use native.Mathlib.Omega.{arith}
use mathlib.Core.Path.{◌≡◌, ◌∙◌}
use Rattle.address.specs.Address.{numbers}
use Rattle.scans.specs.Around.{around_in}
use Rattle.scans.specs.Standing.{blocks_in}
use Rattle.scans.proofs.Walks.{run-start, run_end, within, Here, comparable}
use Rattle.scans.proofs.Turns.{passed, run-scan, at_first, none_more, at-end, after, not_after, first_found, last_found, around_missed}
use Rattle.scans.proofs.find_around.Goals as goal
use Rattle.scans.proofs.find_around.Goals.{After-is_first-first, After-range_start-at, then-surrounds+else-first, else-surrounds}

-- what the pass finds is what is asked
answer : (c : After-is_first-first) → let a = c.args in
    passed c.is_first-first.result c.is_strict-strict.result a.image.now a.blocks a.range ≡ around_in a.which (blocks_in a.image.now a.blocks.low) (numbers a.range)
answer c =
    run-scan c.requires c.args.which c.is_strict-strict.ensures c.is_first-first.ensures

pub loop-i-init : goal.loop-i-init
loop-i-init c =
    let q = c.requires in
    (omega arith, q.selected.run_of.forward, rw (run-start q) (at_first _ _ _))

pub range_start-at-requires : goal.range_start-at-requires
range_start-at-requires c =
    within c.requires c.loop-i.invariant.0 c.loop-i-test.true

-- the record of this turn
here : (c : After-range_start-at) → let a = c.args in
    Here a.image.now a.starts.now a.blocks a.range c.loop-i.i c.range_start-at.result c.width_of-width.result
here c =
    record { asked = c.requires; low = c.loop-i.invariant.0; high = c.loop-i-test.true; start = c.range_start-at.ensures; wide = c.width_of-width.ensures.0 }

pub at_least_at-requires : goal.at_least_at-requires
at_least_at-requires c = let k = comparable (here (goal.at.at_least_at-requires c).After-range_start-at) in (k.wide, omega (arith, k.fits))

pub returns-then-not-at_least_at : goal.returns-then-not-at_least_at
returns-then-not-at_least_at c =
    none_more _ _ _ (after (here (goal.at.returns-then-not-at_least_at c).After-range_start-at) c.at_least_at.ensures c.if-not-at_least_at.true c.is_strict-strict.result) c.loop-i.invariant.2 ∙ answer (goal.at.returns-then-not-at_least_at c).After-is_first-first

pub surrounds-requires : goal.surrounds-requires
surrounds-requires c = let h = here (goal.at.surrounds-requires c).After-range_start-at in (comparable h, not_after h c.at_least_at.ensures c.if-not-at_least_at.false)

pub returns-then-first : goal.returns-then-first
returns-then-first c =
    first_found (here (goal.at.returns-then-first c).After-range_start-at) c.is_strict-strict.result c.surrounds.ensures c.if-surrounds.true c.if-first.true c.loop-i.invariant.2 ∙ answer (goal.at.returns-then-first c).After-is_first-first

pub loop-i-preserved : goal.loop-i-preserved
loop-i-preserved c =
    let l = c.loop-i in
    elim c.if-surrounds.branch [
      | then-surrounds+else-first w ↦ (omega arith, omega arith, last_found (here (goal.at.loop-i-preserved c).After-range_start-at) c.is_strict-strict.result c.surrounds.ensures w.if-surrounds.true l.found w.if-first.false w.found-is l.invariant.2)
      | else-surrounds w ↦ (omega arith, omega arith, around_missed (here (goal.at.loop-i-preserved c).After-range_start-at) c.is_strict-strict.result c.surrounds.ensures w.if-surrounds.false _ l.found w.found-is l.invariant.2)
    ]

pub returns : goal.returns
returns c =
    at-end _ (rw (run_end c.requires c.loop-i.i c.loop-i-test.false c.loop-i.invariant.1) at c.loop-i.invariant.2) ∙ answer (goal.at.returns c).After-is_first-first
