use mathlib.Core.Path.{refl}
use mathlib.Core.List.{[]}
use Prim.Native.Nat.{◌≤◌, ◌<◌}
use native.Mathlib.Omega.{arith}
use lib.ListN.{drop}
use Rattle.image.specs.Image.{image_from}
use Rattle.image.proofs.Walk.{Reached, walk_start, walk_end, walk-full, walk_refused, walk-taken, field-here, behind-here, coming, walk-bad, room, walk-good}
use Rattle.image.proofs.Noted.{note_none, note_next, note_sound, note_defective}
use Rattle.image.proofs.index_from.Goals as goal
use Rattle.image.proofs.index_from.Goals.{In-Ok, In-Ok-step}

pub loop-p-init : goal.loop-p-init
loop-p-init c =
    rw c.no_record-p.ensures (walk_start _ _ c.requires.0 c.requires.1 _ refl, note_none _ _ _ c.requires.2)

pub returns-then-count-eq-MOST_COUNT : goal.returns-then-count-eq-MOST_COUNT
returns-then-count-eq-MOST_COUNT c =
    let l = c.loop-p in
    note_defective _ _ _ _ _ _ _ l.invariant.1 (walk-full _ _ _ _ _ _ l.invariant.0 c.loop-p-test.true c.if-count-eq-MOST_COUNT.true) _ c.at.ensures

-- a record was read
reached : (c : In-Ok) → Reached c.args.image.now (image_from 4096 [] (drop c.args.from c.args.image.now)) c.loop-p.p c.loop-p.stack c.loop-p.depth c.loop-p.count c.in-Ok.r
reached c = walk-taken _ _ _ _ _ _ c.loop-p.invariant.0 c.loop-p-test.true c.if-count-eq-MOST_COUNT.false _ c.record_at.ensures _ c.in-Ok.is

-- it starts in the image
begins : (c : In-Ok) → c.in-Ok.r.start ≤ 262144
begins c = let i = field-here (reached c) in omega (arith, i.forward, i.within, c.loop-p.invariant.0.short-enough)

pub step-requires : goal.step-requires
step-requires c = coming (reached (goal.at.step-requires c).In-Ok)

pub overflow_cast-starts : goal.overflow_cast-starts
overflow_cast-starts c =
    omega (arith, c.loop-p-test.true, c.loop-p.invariant.0.short-enough)

-- the place for it is in the stack
fits : (c : In-Ok-step) → c.in-Ok-step.d < 4096
fits c = room (walk-taken _ _ _ _ _ _ c.loop-p.invariant.0 c.loop-p-test.true c.if-count-eq-MOST_COUNT.false _ c.record_at.ensures _ c.in-Ok.is) _ c.step.ensures _ c.in-Ok-step.is

pub overflow_add-stack : goal.overflow_add-stack
overflow_add-stack c = omega (arith, begins (goal.at.overflow_add-stack c).In-Ok)

pub overflow_cast-stack : goal.overflow_cast-stack
overflow_cast-stack c = omega (arith, begins (goal.at.overflow_cast-stack c).In-Ok)

pub offset_bounds-stack-d : goal.offset_bounds-stack-d
offset_bounds-stack-d c = omega (arith, fits (goal.at.offset_bounds-stack-d c).In-Ok-step)

pub bounds-stack-d : goal.bounds-stack-d
bounds-stack-d c = omega (arith, fits (goal.at.bounds-stack-d c).In-Ok-step)

pub overflow_add-depth : goal.overflow_add-depth
overflow_add-depth c = omega (arith, fits (goal.at.overflow_add-depth c).In-Ok-step)

pub loop-p-smaller : goal.loop-p-smaller
loop-p-smaller c =
    let i = field-here (reached (goal.at.loop-p-smaller c).In-Ok) in
    omega (arith, i.after, i.forward, i.within)

pub loop-p-preserved : goal.loop-p-preserved
loop-p-preserved c =
    let l = c.loop-p in (
      walk-good (reached (goal.at.loop-p-preserved c).In-Ok) _ c.step.ensures _ c.in-Ok-step.is,
      note_next _ _ _ _ _ _ l.invariant.1 (omega (arith, l.invariant.0.few, c.if-count-eq-MOST_COUNT.false)) (behind-here (reached (goal.at.loop-p-preserved c).In-Ok)),
    )

pub returns-in-Err-step : goal.returns-in-Err-step
returns-in-Err-step c =
    note_defective _ _ _ _ _ _ _ c.loop-p.invariant.1 (walk-bad (reached (goal.at.returns-in-Err-step c).In-Ok) _ c.step.ensures _ c.in-Err-step.is) _ c.at-in-Err-step.ensures

pub returns-in-Err : goal.returns-in-Err
returns-in-Err c =
    note_defective _ _ _ _ _ _ _ c.loop-p.invariant.1
    (walk_refused _ _ _ _ _ _ c.loop-p.invariant.0 c.loop-p-test.true c.if-count-eq-MOST_COUNT.false _ c.record_at.ensures _ c.in-Err.is) _ c.at-in-Err.ensures

pub returns : goal.returns
returns c =
    let l = c.loop-p in
    note_sound _ _ _ _ _ l.invariant.1 (walk_end _ _ _ _ _ _ l.invariant.0 c.loop-p-test.false)
