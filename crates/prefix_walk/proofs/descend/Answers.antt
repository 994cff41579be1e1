-- The first prefix, and those of what it leaves.
use Prim.Native.Nat.{◌+◌, ◌-◌, ◌^◌, ◌≤◌}
use mathlib.Core.Path.{◌≡◌, ◌∙◌}
use mathlib.Core.List.{◌∷◌}
use native.Mathlib.Nat.{pow-suc}
use native.Mathlib.Omega.{arith}
use lib.ListN.{length}
use Rattle.output.proofs.Writing.{rest-length, kept-length, rest-fits}
use Rattle.cidr.specs.Prefixes.{prefix, from-to, prefixes_of}
use Rattle.cidr.specs.First.{Largest}
use Rattle.cidr.proofs.Multiples.{sum, itself, of_remainder, to_remainder}
use Rattle.cidr.proofs.Greedy.{first-prefix}
use Rattle.cidr.proofs.Step as step
use Rattle.next_prefix.specs.Walked.{walked}
use Rattle.prefix_walk.specs.Entries.{fallen, Falling, Entered}
use Rattle.next_prefix.proofs.Walk as walk
use Rattle.prefix_bytes.proofs.Widths.{at-most-sixteen}
use Rattle.prefix_walk.proofs.Writing.{nothing-entered, entry-inside, one-entered, all-entered, both-listed, entry-fits}
use Rattle.prefix_walk.proofs.Few.{few}
use Rattle.prefix_walk.proofs.descend.Goals as goal
use Rattle.prefix_walk.proofs.descend.Goals.{After-cap-free, Else-last-end}

-- the first prefix
module _ (c : After-cap-free) where
  largest : Largest (from-to c.args.first c.args.last) c.cap-free.result
  largest = let f = c.requires.0.forward in step.by-room c.requires.1 (omega arith) c.cap-free.ensures.1

  known : walked c.args.first c.args.last ≡ prefix c.args.first c.cap-free.result ∷ prefixes_of 128 (from-to (c.args.first + 2 ^ c.cap-free.result) c.args.last)
  known = first-prefix 128 (from-to c.args.first c.args.last) c.cap-free.result c.ranges.last.fits largest

  roomy : c.args.width + 1 ≤ length c.args.out.now
  roomy = omega (arith, entry-inside (nothing-entered c.args.width (walked c.args.first c.args.last) c.args.out.now) known c.requires.2)

pub overflow_sub-last : goal.overflow_sub-last
overflow_sub-last c = c.requires.0.forward

pub put_entry-requires : goal.put_entry-requires
put_entry-requires c =
    let o = c.requires.0 in
    let here = (goal.at.put_entry-requires c).After-cap-free in
    (entry-fits c.args.width o.wide o.forward o.below (largest here), roomy here)

pub last_of-end-requires : goal.last_of-end-requires
last_of-end-requires c = (c.cap-free.ensures.0, walk.ends-inside 128 c.ranges.last.fits (largest (goal.at.last_of-end-requires c).After-cap-free))

pub returns-then-last-end : goal.returns-then-last-end
returns-then-last-end c =
    let one = walk.last_one 128 c.ranges.last.fits (largest (goal.at.returns-then-last-end c).After-cap-free) c.last_of-end.ensures c.if-last-end.true in
    rw one (all-entered (one-entered c.put_entry.ensures))

-- the others
module _ (c : Else-last-end) where
  abbrev here : After-cap-free
  here = (goal.at.overflow_add-end c).After-cap-free

  next : c.last_of-end.result + 1 ≡ c.args.first + 2 ^ c.cap-free.result
  next = omega (arith, c.last_of-end.ensures)

  more : walked c.args.first c.args.last ≡ prefix c.args.first c.cap-free.result ∷ fallen (c.last_of-end.result + 1) (c.args.last - c.last_of-end.result)
  more =
      let e : c.last_of-end.result + 1 + (c.args.last - c.last_of-end.result) - 1 ≡ c.args.last = omega (arith, c.if-last-end.false) in
      walk.one_more 128 c.ranges.last.fits (largest here) next ∙ rw e

  first-entered : Entered c.args.width (walked c.args.first c.args.last) (fallen (c.last_of-end.result + 1) (c.args.last - c.last_of-end.result)) c.args.out.now c.put_entry.new.out (c.args.width + 1) 1
  first-entered = rw more (one-entered c.put_entry.ensures)

  falling : Falling c.args.width (c.last_of-end.result + 1) (c.args.last - c.last_of-end.result)
  falling = record {
    wide = c.requires.0.wide;
    positive = omega arith;
    below = omega (arith, c.if-last-end.false, c.requires.0.below);
    bits = c.cap-free.result;
    zeros = rw next (to_remainder c.cap-free.result (sum (of_remainder _ c.cap-free.result (largest here).zeros) (itself (2 ^ c.cap-free.result))));
    few = omega (arith, next, c.if-last-end.false, c.requires.0.forward, c.cap-free.ensures.1.to, pow-suc 2 c.cap-free.result);
  }

pub overflow_add-end : goal.overflow_add-end
overflow_add-end c = omega (arith, c.if-last-end.false)

pub overflow_add-width : goal.overflow_add-width
overflow_add-width c = omega (arith, roomy (goal.at.overflow_add-width c).After-cap-free, c.well_formed)

pub slice_bounds-fall-count : goal.slice_bounds-fall-count
slice_bounds-fall-count c = omega (arith, roomy (goal.at.slice_bounds-fall-count c).After-cap-free, kept-length (first-entered (goal.at.slice_bounds-fall-count c).Else-last-end).reached c.requires.2)

pub slice_bounds-fall-start : goal.slice_bounds-fall-start
slice_bounds-fall-start c = omega (arith, roomy (goal.at.slice_bounds-fall-start c).After-cap-free, kept-length (first-entered (goal.at.slice_bounds-fall-start c).Else-last-end).reached c.requires.2)

pub fall-requires : goal.fall-requires
fall-requires c =
    let here = (goal.at.fall-requires c).Else-last-end in
    (falling here, omega (arith, rest-fits (first-entered here).reached c.requires.2, rest-length c.put_entry.new.out (c.args.width + 1)))

pub overflow_add-result : goal.overflow_add-result
overflow_add-result c =
    let all = both-listed (first-entered (goal.at.overflow_add-result c).Else-last-end) c.fall.ensures in
    let o = c.requires.0 in
    omega (arith, all.counted, few o, at-most-sixteen o.wide)

pub returns : goal.returns
returns c = both-listed (first-entered (goal.at.returns c).Else-last-end) c.fall.ensures
