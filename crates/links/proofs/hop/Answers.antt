use Prim.Native.Nat.{◌+◌, ◌-◌, ◌*◌, ◌≤◌}
use mathlib.Core.Path.{◌≡◌, refl}
use native.Mathlib.Omega.{arith}
use borrow.Author.Tests.{not-true, not-false}
use lib.ListN.{length, get_or}
use Rattle.registry.specs.Tags.{width_of}
use Rattle.nesting.proofs.Families.{wide-family}
use Rattle.scans.specs.Standing.{blocks_in}
use Rattle.links.specs.Links.{Link}
use Rattle.links.proofs.Hops.{Hopping, hops_start, hops_next, hops_stop, hops_end}
use borrow.Author.Rules.{rules}
use Rattle.links.proofs.hop.Goals as goal
use Rattle.links.proofs.hop.Goals.{In-loop-j, Start}

pub offset_bounds-firsts-i : goal.offset_bounds-firsts-i
offset_bounds-firsts-i c = let few = c.requires.0.few in search rules

pub bounds-firsts-i : goal.bounds-firsts-i
bounds-firsts-i c = let few = c.requires.0.few in search rules

-- where block i and the block of this turn stand, and where that block's link leads
first_fits : (c : Start) → let a = c.args in get_or a.firsts.now a.i 0 + 2 * width_of a.family ≤ length a.image.now
first_fits c = c.requires.0.fits c.args.i c.requires.1

fits : (c : In-loop-j) → let a = c.args in
    get_or a.firsts.now c.loop-j.j 0 + 2 * width_of a.family ≤ length a.image.now
fits c = c.requires.0.fits c.loop-j.j c.loop-j-test.true

link : (c : In-loop-j) → let a = c.args in
    Link (blocks_in a.image.now a.family) c.loop-j.j (get_or a.links.now c.loop-j.j 0)
link c = c.requires.2 c.loop-j.j (omega (arith, c.loop-j.invariant.2.ahead)) (omega (arith, c.requires.0.counted))

pub overflow_cast-end : goal.overflow_cast-end
overflow_cast-end c = let a = (c.requires.0.fits c.args.i c.requires.1) in search rules

pub overflow_add-end : goal.overflow_add-end
overflow_add-end c = let a = (c.requires.0.fits c.args.i c.requires.1) in search rules

pub overflow_add-j : goal.overflow_add-j
overflow_add-j c = let few = c.requires.0.few in search rules

pub loop-j-init : goal.loop-j-init
loop-j-init c = (c.width_of-width.ensures.0, refl, hops_start c.requires.0 c.args.i c.requires.1)

pub offset_bounds-firsts-j : goal.offset_bounds-firsts-j
offset_bounds-firsts-j c = let few = c.requires.0.few in search rules

pub bounds-firsts-j : goal.bounds-firsts-j
bounds-firsts-j c = let few = c.requires.0.few in search rules

pub overflow_cast-firsts : goal.overflow_cast-firsts
overflow_cast-firsts c = let b = fits (goal.at.overflow_cast-firsts c).In-loop-j in search rules

pub numbers_at_most-requires : goal.numbers_at_most-requires
numbers_at_most-requires c =
    let a = first_fits (goal.at.numbers_at_most-requires c).Start in
    let b = fits (goal.at.numbers_at_most-requires c).In-loop-j in
    (rw c.width_of-width.ensures.0 (wide-family c.args.family), omega arith, omega arith)

pub returns-then-not-numbers_at_most : goal.returns-then-not-numbers_at_most
returns-then-not-numbers_at_most c =
    hops_stop c.requires.0 c.args.i c.requires.1 c.loop-j.j c.width_of-width.result c.width_of-width.ensures.0 c.loop-j.invariant.2 c.loop-j-test.true c.numbers_at_most.ensures (c.if-not-numbers_at_most.true)

pub offset_bounds-links-j : goal.offset_bounds-links-j
offset_bounds-links-j c = let few = c.requires.0.few in search rules

pub bounds-links-j : goal.bounds-links-j
bounds-links-j c = let few = c.requires.0.few in search rules

pub overflow_cast-j : goal.overflow_cast-j
overflow_cast-j c =
    let g = c.requires.0 in
    omega (arith, (link (goal.at.overflow_cast-j c).In-loop-j).upto, g.counted, g.few)

pub loop-j-smaller : goal.loop-j-smaller
loop-j-smaller c =
    omega (arith, (link (goal.at.loop-j-smaller c).In-loop-j).upto, (link (goal.at.loop-j-smaller c).In-loop-j).ahead, c.requires.0.counted)

pub loop-j-preserved : goal.loop-j-preserved
loop-j-preserved c = (
  c.loop-j.invariant.0,
  c.loop-j.invariant.1,
  hops_next c.requires.0 c.args.i c.requires.1 c.loop-j.j c.width_of-width.result c.width_of-width.ensures.0 c.loop-j.invariant.2 c.loop-j-test.true c.numbers_at_most.ensures (c.if-not-numbers_at_most.false) _ (link (goal.at.loop-j-preserved c).In-loop-j),
)

pub returns : goal.returns
returns c =
    hops_end c.requires.0 c.args.i c.requires.1 c.loop-j.j c.loop-j.invariant.2 c.loop-j-test.false
