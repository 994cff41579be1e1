-- `bottom::leaves_gap` meets its contract: the pass for a gap, over what block i and the range have.
use mathlib.Core.Path.{◌≡◌, sym, ◌∙◌}
use native.Mathlib.Omega.{arith}
use Rattle.address.specs.Address.{numbers}
use Rattle.forest.specs.Scans.{gap_in}
use Rattle.scans.specs.Standing.{blocks_in}
use Rattle.bottom.specs.Testing.{range_at, leaves_from}
use Rattle.bottom.proofs.Tests.{comparable-at}
use Rattle.bottom.proofs.Children.{whole, walk_none}
use borrow.Author.Rules.{rules}
use Rattle.bottom.proofs.leaves_gap.Goals as goal
use Rattle.bottom.proofs.leaves_gap.Goals.{After-max-free}

-- what block i and the range have
both : (c : After-max-free) → let a = c.args in
    leaves_from a.image.now a.family a.i c.max-free.result c.min-limit.result
    ≡ gap_in (blocks_in a.image.now a.family) (numbers a.range) (range_at a.image.now a.family a.i)
both c =
    whole c.requires c.width_of-width.ensures.0 (numbers c.args.range)
    (c.max-free.ensures ∙ rw (c.number-2.ensures, c.number_at-2.ensures))
    (c.min-limit.ensures ∙ rw (c.number.ensures, c.number_at.ensures))

pub offset_bounds-firsts-i : goal.offset_bounds-firsts-i
offset_bounds-firsts-i c = let few = c.requires.gathered.few in let known = c.requires.known in search rules

pub bounds-firsts-i : goal.bounds-firsts-i
bounds-firsts-i c = let few = c.requires.gathered.few in let known = c.requires.known in search rules

pub overflow_cast-start : goal.overflow_cast-start
overflow_cast-start c = let a = c.requires.gathered.fits c.args.i c.requires.known in search rules

pub overflow_add-start : goal.overflow_add-start
overflow_add-start c = let a = c.requires.gathered.fits c.args.i c.requires.known in search rules

pub number_at-requires : goal.number_at-requires
number_at-requires c =
    let p = c.requires in
    let k = comparable-at p.gathered _ p.known c.width_of-width.ensures.0 in
    (k.wide, omega (arith, k.fits))

pub number_at-requires-2 : goal.number_at-requires-2
number_at-requires-2 c =
    let p = c.requires in
    let k = comparable-at p.gathered _ p.known c.width_of-width.ensures.0 in
    (k.wide, omega (arith, k.fits))

pub returns-then-limit-free : goal.returns-then-limit-free
returns-then-limit-free c = walk_none c.requires _ _ c.if-limit-free.true ∙ both (goal.at.returns-then-limit-free c).After-max-free

pub children_leave-requires : goal.children_leave-requires
children_leave-requires c = (c.requires, c.if-limit-free.false)

pub returns : goal.returns
returns c = c.children_leave.ensures ∙ both (goal.at.returns c).After-max-free
