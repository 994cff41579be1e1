use Prim.Native.Nat.{ℕ, ◌+◌, ◌-◌, ◌/◌, ◌≤◌, ◌<◌}
use mathlib.Core.Path.{◌≡◌, sym, ◌∙◌}
use native.Mathlib.Omega.{arith}
use Rattle.octets.proofs.Order.{told-first, told-second, told-equal}
use Rattle.image.specs.Index.{Selected}
use Rattle.halves.proofs.Halves.{Sorted, halve_none, halve_up, halve_down}
use Rattle.search.proofs.Picks.{few, in_image, text-inside}
use Rattle.by_name.proofs.Seeking.{Before, Behind, keys_sorted, none_found, one_found, Left, at-start, step_allowed, step-taken}
use Rattle.by_name.proofs.seek.Goals as goal
use Rattle.by_name.proofs.seek.Goals.{After-middle-i}

pub loop-low-init : goal.loop-low-init
loop-low-init c =
    let chosen = c.requires.0 in
    (halve_none chosen.run_of.forward, at-start _ _ (few chosen))

-- the record in the middle is one of the run
chosen : (c : After-middle-i) → let a = c.args in Selected a.image.now a.starts.now a.run
chosen c = c.requires.0

in_run : (c : After-middle-i) → c.middle-i.result < c.args.run.until
in_run c = omega (arith, c.middle-i.ensures, c.loop-low.invariant.0.ends)

order : (c : After-middle-i)
    → let a = c.args in
    let which = c.which_of-which.result in
    Sorted (Before a.image.now a.starts.now which a.wanted.now) (Behind a.image.now a.starts.now which a.wanted.now) a.run.from a.run.until
order c = keys_sorted c.requires.0 c.requires.1 _ c.which_of-which.ensures c.args.wanted.now

step : (c : After-middle-i) (later left : ℕ)
    → let l = c.loop-low in later ≡ l.steps + 1 → left ≤ (l.high - l.low) / 2 → Left later left
step c = let l = c.loop-low in step-taken l.steps l.low l.high c.loop-low-test.true l.invariant.1

pub offset_bounds-starts-i : goal.offset_bounds-starts-i
offset_bounds-starts-i c = omega (arith, few (chosen c), in_run c)

pub bounds-starts-i : goal.bounds-starts-i
bounds-starts-i c = omega (arith, few c.requires.0, c.middle-i.ensures, c.loop-low.invariant.0.ends)

pub overflow_cast-at-in-loop-low : goal.overflow_cast-at-in-loop-low
overflow_cast-at-in-loop-low c =
    let r : c.middle-i.result < c.args.run.until = omega (arith, c.middle-i.ensures, c.loop-low.invariant.0.ends) in
    omega (arith, in_image c.requires.0 _ r)

pub compare_at-requires : goal.compare_at-requires
compare_at-requires c =
    let l = c.loop-low in
    (text-inside (chosen (goal.at.compare_at-requires c).After-middle-i) _ (in_run (goal.at.compare_at-requires c).After-middle-i) _, step_allowed l.steps l.low l.high c.loop-low-test.true l.invariant.1)

pub overflow_add-low : goal.overflow_add-low
overflow_add-low c =
    omega (arith, few c.requires.0, c.middle-i.ensures, c.loop-low.invariant.0.ends, c.loop-low.invariant.0.ends)

pub loop-low-smaller-in-Less : goal.loop-low-smaller-in-Less
loop-low-smaller-in-Less c = omega (arith, c.middle-i.ensures)

pub loop-low-preserved-in-Less : goal.loop-low-preserved-in-Less
loop-low-preserved-in-Less c = (
  halve_up (order (goal.at.loop-low-preserved-in-Less c).After-middle-i) _ _ _ c.loop-low.invariant.0 c.middle-i.ensures.0 c.middle-i.ensures.1
      (told-second _ _ (sym c.compare_at.ensures.order ∙ c.in-Less.is)),
  step (goal.at.loop-low-preserved-in-Less c).After-middle-i _ _ c.compare_at.ensures.counted (omega (arith, c.middle-i.ensures)),
)

pub returns-in-Equal : goal.returns-in-Equal
returns-in-Equal c =
    record {
      bounded = omega (arith, (step (goal.at.returns-in-Equal c).After-middle-i _ 0 c.compare_at.ensures.counted (omega arith)).bounded);
      answer =
          one_found c.requires.0 c.requires.1 _ c.which_of-which.ensures c.args.wanted.now _
          (omega (arith, c.middle-i.ensures, c.loop-low.invariant.0.starts)) (omega (arith, c.middle-i.ensures, in_run (goal.at.returns-in-Equal c).After-middle-i)) (told-equal _ _ (sym c.compare_at.ensures.order ∙ c.in-Equal.is));
    }

pub loop-low-smaller : goal.loop-low-smaller
loop-low-smaller c = omega (arith, c.middle-i.ensures)

pub loop-low-preserved : goal.loop-low-preserved
loop-low-preserved c = (
  halve_down (order (goal.at.loop-low-preserved c).After-middle-i) _ _ _ c.loop-low.invariant.0 c.middle-i.ensures.0 c.middle-i.ensures.1
      (told-first _ _ (sym c.compare_at.ensures.order ∙ c.in-Greater.is)),
  step (goal.at.loop-low-preserved c).After-middle-i _ _ c.compare_at.ensures.counted (omega (arith, c.middle-i.ensures)),
)

pub returns : goal.returns
returns c =
    let l = c.loop-low in
    record {
      bounded = omega (arith, l.invariant.1.bounded);
      answer =
          none_found c.requires.0 c.requires.1 _ c.which_of-which.ensures c.args.wanted.now l.low l.high l.invariant.0 c.loop-low-test.false;
    }
