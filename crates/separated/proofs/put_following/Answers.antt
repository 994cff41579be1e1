use Prim.Native.Nat.{◌+◌, ◌≤◌}
use mathlib.Core.List.{[], ◌∷◌}
use native.Mathlib.Omega.{arith}
use lib.ListN.{length, get_or}
use Rattle.numeral.specs.Digits.{following}
use Rattle.digits.specs.Base.{radix}
use Rattle.output.proofs.Writing.{rest-length, at-start, kept-length, part-fits, next-part, at-end}
use Rattle.separated.proofs.Following.{next-number, no_number}
use Rattle.separated.proofs.put_following.Goals as goal
use Rattle.separated.proofs.put_following.Goals.{In-loop-n}

pub loop-n-init : goal.loop-n-init
loop-n-init c = at-start _ _

-- the next number has room
fits : (c : In-loop-n) → let l = c.loop-n in let a = c.args in
    l.at + length (following a.sep (radix a.base) (get_or a.numbers.now l.n-index 0 ∷ [])) ≤ length l.text
fits c =
    part-fits c.loop-n.invariant c.requires (next-number c.args.sep (radix c.args.base) c.args.numbers.now c.loop-n-test.true)

pub slice_bounds-put_next-count : goal.slice_bounds-put_next-count
slice_bounds-put_next-count c = omega (arith, fits (goal.at.slice_bounds-put_next-count c).In-loop-n)

pub slice_bounds-put_next-start : goal.slice_bounds-put_next-start
slice_bounds-put_next-start c = omega (arith, fits (goal.at.slice_bounds-put_next-start c).In-loop-n)

pub put_next-at-requires : goal.put_next-at-requires
put_next-at-requires c = rw rest-length (omega (arith, fits (goal.at.put_next-at-requires c).In-loop-n))

pub overflow_add-at : goal.overflow_add-at
overflow_add-at c =
    omega (arith, fits (goal.at.overflow_add-at c).In-loop-n, kept-length c.loop-n.invariant c.requires, c.put_next-at.ensures.size)

pub loop-n-preserved : goal.loop-n-preserved
loop-n-preserved c =
    let a = c.args in
    next-part c.loop-n.invariant (next-number a.sep (radix a.base) a.numbers.now c.loop-n-test.true) c.put_next-at.ensures

pub shape_of-text : goal.shape_of-text
shape_of-text c = kept-length c.loop-n.invariant c.requires

pub returns : goal.returns
returns c =
    let a = c.args in
    at-end (rw (no_number a.sep (radix a.base) a.numbers.now {i = c.loop-n.n-index} (omega arith)) at c.loop-n.invariant)
