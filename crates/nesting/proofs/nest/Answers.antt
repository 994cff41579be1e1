use mathlib.Core.Path.{◌≡◌, refl, sym, ◌∙◌}
use Prim.Native.Nat.{ℕ, ◌+◌, ◌-◌, ◌*◌, ◌≤◌}
use lib.ListN.{length, get_or}
use native.Mathlib.Omega.{arith}
use Rattle.address.specs.Ranges.{Range}
use Rattle.address.specs.Positions.{range_in}
use Rattle.nesting.specs.Nest.{open_last}
use Rattle.nesting.proofs.Search.{nest-none, nest_on, nest-under, nest-out}
use Rattle.nesting.proofs.nest.Goals as goal
use Rattle.nesting.proofs.nest.Goals.{After-shared_slice_known-in-loop-d-1, Start}

pub loop-d-init : goal.loop-d-init
loop-d-init c = (omega arith, refl)

abbrev lasts : Start → ℕ → ℕ
lasts a = open_last a.args.opens.now a.args.width a.args.stack.now

abbrev range : Start → Range
range a = range_in a.args.image.now a.args.start a.args.width

-- the open block lies where it should
room : (c : After-shared_slice_known-in-loop-d-1) → get_or c.args.stack.now (c.loop-d.d - 1) 0 + 2 * c.args.width ≤ length c.args.opens.now
room c = c.requires.opened (c.loop-d.d - 1) (omega (arith, c.loop-d.invariant.0, c.loop-d-test.true))

pub overflow_cast-last : goal.overflow_cast-last
overflow_cast-last c = omega (arith, room c)

pub overflow_add-last : goal.overflow_add-last
overflow_add-last c = omega (arith, room c)

pub numbers_at_most-requires : goal.numbers_at_most-requires
numbers_at_most-requires c = (c.requires.wide, omega arith, omega (arith, room c))

pub numbers_at_most-requires-then-numbers_at_most : goal.numbers_at_most-requires-then-numbers_at_most
numbers_at_most-requires-then-numbers_at_most c =
    (c.requires.wide, omega arith, omega (arith, room (goal.at.numbers_at_most-requires-then-numbers_at_most c).After-shared_slice_known-in-loop-d-1))

pub returns-then-numbers_at_most-2 : goal.returns-then-numbers_at_most-2
returns-then-numbers_at_most-2 c =
    let e : c.loop-d.d - 1 + 1 ≡ c.loop-d.d = omega (arith, c.loop-d-test.true) in
    rw e (nest-under (lasts (goal.at.returns-then-numbers_at_most-2 c).Start) (range (goal.at.returns-then-numbers_at_most-2 c).Start) c.args.depth c.loop-d.d c.loop-d.invariant.1 c.loop-d-test.true
    (sym c.numbers_at_most.ensures ∙ c.if-numbers_at_most.true) (sym c.numbers_at_most-then-numbers_at_most.ensures ∙ c.if-numbers_at_most-2.true))

pub returns-then-numbers_at_most : goal.returns-then-numbers_at_most
returns-then-numbers_at_most c =
    nest-out (lasts (goal.at.returns-then-numbers_at_most c).Start) (range (goal.at.returns-then-numbers_at_most c).Start) c.args.depth c.loop-d.d c.loop-d.invariant.1 c.loop-d-test.true
    (sym c.numbers_at_most.ensures ∙ c.if-numbers_at_most.true) (sym c.numbers_at_most-then-numbers_at_most.ensures ∙ c.if-numbers_at_most-2.false)

pub loop-d-preserved : goal.loop-d-preserved
loop-d-preserved c = (
  omega (arith, c.loop-d.invariant.0),
  nest_on (lasts (goal.at.loop-d-preserved c).Start) (range (goal.at.loop-d-preserved c).Start) c.args.depth c.loop-d.d c.loop-d.invariant.1 c.loop-d-test.true (sym c.numbers_at_most.ensures ∙ c.if-numbers_at_most.false),
)

pub returns : goal.returns
returns c =
    nest-none (lasts (goal.at.returns c).Start) (range (goal.at.returns c).Start) c.args.depth c.loop-d.d c.loop-d.invariant.1 c.loop-d-test.false
