-- Three comparisons decide the sorting of two ranges.
use mathlib.Core.Path.{sym, ◌∙◌}
use Rattle.address.specs.Ranges.{Range}
use Rattle.address.specs.Positions.{range_in}
use Rattle.nesting.proofs.Families.{after_first, before-first, same_first}
use Rattle.nesting.proofs.range_after.Goals as goal
use Rattle.nesting.proofs.range_after.Goals.{After-numbers_at_most}

abbrev earlier : After-numbers_at_most → Range
earlier m = range_in m.args.a.now m.args.p m.args.width

abbrev later : After-numbers_at_most → Range
later m = range_in m.args.b.now m.args.q m.args.width

pub returns-then-not-numbers_at_most : goal.returns-then-not-numbers_at_most
returns-then-not-numbers_at_most c =
    after_first (earlier (goal.at.returns-then-not-numbers_at_most c).After-numbers_at_most) (later (goal.at.returns-then-not-numbers_at_most c).After-numbers_at_most) (sym c.numbers_at_most.ensures ∙ c.if-not-numbers_at_most.true)

pub returns-then-not-numbers_at_most-2 : goal.returns-then-not-numbers_at_most-2
returns-then-not-numbers_at_most-2 c =
    before-first (earlier (goal.at.returns-then-not-numbers_at_most-2 c).After-numbers_at_most) (later (goal.at.returns-then-not-numbers_at_most-2 c).After-numbers_at_most) (sym c.numbers_at_most.ensures ∙ c.if-not-numbers_at_most.false)
    (sym c.numbers_at_most-2.ensures ∙ c.if-not-numbers_at_most-2.true)

pub returns : goal.returns
returns c =
    same_first (earlier (goal.at.returns c).After-numbers_at_most) (later (goal.at.returns c).After-numbers_at_most) (sym c.numbers_at_most.ensures ∙ c.if-not-numbers_at_most.false)
    (sym c.numbers_at_most-2.ensures ∙ c.if-not-numbers_at_most-2.false) _ c.numbers_at_most-3.ensures
