use Prim.Native.Nat.{suc, ◌<◌, ◌≤◌, max}
use mathlib.Core.Path.{◌∙◌}
use native.Mathlib.Omega.{arith}
use lib.ListN.{get_or}
use Rattle.containment.specs.Tests.{Comparable}
use Rattle.bottom.proofs.Tests.{comparable-at}
use Rattle.bottom.proofs.Children.{walk_start, walk_end, child-known, walk-gap, walk-over, walk-next}
use borrow.Author.Rules.{rules}
use Rattle.bottom.proofs.children_leave.Goals as goal
use Rattle.bottom.proofs.children_leave.Goals.{In-loop-j}

-- the child of this turn
child : (c : In-loop-j) → c.loop-j.j < c.args.n
child c = child-known c.requires.0 c.loop-j.invariant c.loop-j-test.true

-- its link leads on, and not past the blocks
leads : (c : In-loop-j) → let j = c.loop-j.j in let links = c.args.links.now in
    (j < get_or links j 0) × (get_or links j 0 ≤ 4096)
leads c =
    let p = c.requires.0 in
    let k = p.linked c.loop-j.j (omega arith) (omega (arith, child c, p.gathered.counted)) in
    (k.ahead, omega (arith, k.upto, p.gathered.counted, p.gathered.few))

pub offset_bounds-links-i : goal.offset_bounds-links-i
offset_bounds-links-i c = let few = c.requires.0.gathered.few in let known = c.requires.0.known in search rules

pub bounds-links-i : goal.bounds-links-i
bounds-links-i c = let few = c.requires.0.gathered.few in let known = c.requires.0.known in search rules

pub overflow_cast-end : goal.overflow_cast-end
overflow_cast-end c =
    let p = c.requires.0 in
    let all = p.gathered.counted in
    let few = p.gathered.few in
    let known = p.known in
    let up = (p.linked c.args.i (omega arith) (omega arith)).upto in
    omega arith

pub overflow_add-j : goal.overflow_add-j
overflow_add-j c = let few = c.requires.0.gathered.few in let known = c.requires.0.known in search rules

pub loop-j-init : goal.loop-j-init
loop-j-init c = walk_start c.requires.0 _ _ c.requires.1

pub offset_bounds-firsts-j : goal.offset_bounds-firsts-j
offset_bounds-firsts-j c = let few = c.requires.0.gathered.few in let known = child c in search rules

pub bounds-firsts-j : goal.bounds-firsts-j
bounds-firsts-j c = let few = c.requires.0.gathered.few in let known = (child-known c.requires.0 c.loop-j.invariant c.loop-j-test.true) in search rules

pub overflow_cast-child : goal.overflow_cast-child
overflow_cast-child c = let b = c.requires.0.gathered.fits c.loop-j.j ((child-known c.requires.0 c.loop-j.invariant c.loop-j-test.true)) in search rules

-- the child's range stands inside the image
stands : (c : In-loop-j) → let a = c.args in
    Comparable a.image.now (get_or a.firsts.now c.loop-j.j 0) c.width_of-width.result
stands c = comparable-at c.requires.0.gathered _ (child c) c.width_of-width.ensures.0

pub number_at-requires : goal.number_at-requires
number_at-requires c = let k = stands (goal.at.number_at-requires c).In-loop-j in (k.wide, omega (arith, k.fits))

pub returns-then-free-number_at : goal.returns-then-free-number_at
returns-then-free-number_at c =
    walk-gap c.requires.0 c.loop-j.invariant c.loop-j-test.true c.width_of-width.ensures.0 c.number_at.ensures c.if-free-number_at.true

pub overflow_add-child : goal.overflow_add-child
overflow_add-child c = let k = (stands (goal.at.overflow_add-child c).In-loop-j).fits in search rules

pub number_at-last-requires : goal.number_at-last-requires
number_at-last-requires c = let k = stands (goal.at.number_at-last-requires c).In-loop-j in (k.wide, omega (arith, k.fits))

pub returns-then-limit-last : goal.returns-then-limit-last
returns-then-limit-last c =
    walk-over c.requires.0 c.loop-j.invariant c.loop-j-test.true c.width_of-width.ensures.0
    c.number_at.ensures c.if-free-number_at.false c.number_at-last.ensures c.if-limit-last.true

pub offset_bounds-links-j : goal.offset_bounds-links-j
offset_bounds-links-j c =
    let few = c.requires.0.gathered.few in
    let known = (child-known c.requires.0 c.loop-j.invariant c.loop-j-test.true) in
    search rules

pub bounds-links-j : goal.bounds-links-j
bounds-links-j c =
    let few = c.requires.0.gathered.few in
    let known = (child-known c.requires.0 c.loop-j.invariant c.loop-j-test.true) in
    search rules

pub overflow_cast-j : goal.overflow_cast-j
overflow_cast-j c = let k = leads (goal.at.overflow_cast-j c).In-loop-j in omega arith

pub loop-j-smaller : goal.loop-j-smaller
loop-j-smaller c = let k = leads (goal.at.loop-j-smaller c).In-loop-j in omega arith

pub loop-j-preserved : goal.loop-j-preserved
loop-j-preserved c =
    walk-next c.requires.0 c.loop-j.invariant c.loop-j-test.true c.width_of-width.ensures.0
    c.number_at.ensures c.if-free-number_at.false c.number_at-last.ensures c.if-limit-last.false (omega (arith, c.max-free.ensures))

pub returns : goal.returns
returns c = walk_end c.requires.0 c.loop-j.invariant c.loop-j-test.false
