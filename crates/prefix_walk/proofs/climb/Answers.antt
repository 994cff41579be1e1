use Prim.Native.Nat.{ℕ, ◌+◌, ◌^◌, ◌≤◌}
use mathlib.Core.Path.{◌≡◌, refl}
use mathlib.Core.List.{◌∷◌}
use native.Mathlib.Nat.{le_of_lt}
use native.Mathlib.Omega.{arith}
use lib.Count.{count_trailing_zeros}
use lib.ListN.{length}
use lib.Pow.{pow_pos}
use Rattle.output.proofs.Writing.{rest-length}
use Rattle.cidr.specs.Prefixes.{prefix, from-to, prefixes_of}
use Rattle.cidr.specs.First.{Largest}
use Rattle.cidr.proofs.Greedy.{first-prefix}
use Rattle.cidr.proofs.Step as step
use Rattle.cidr.proofs.Theorem.{at-most_254}
use Rattle.next_prefix.specs.Walked.{walked}
use Rattle.next_prefix.proofs.Walk as walk
use Rattle.prefix_walk.proofs.Writing.{nothing-entered, entry-inside, few-entered, entered, entry-fits}
use Rattle.prefix_walk.proofs.climb.Goals as goal
use Rattle.prefix_walk.proofs.climb.Goals.{Else-last-end}

pub loop-first-init : goal.loop-first-init
loop-first-init c = (c.requires.0.forward, nothing-entered c.args.width (walked c.args.first c.args.last) c.args.out.now)

pub returns-then-last-end : goal.returns-then-last-end
returns-then-last-end c = record {
  entered = c.loop-first.invariant.1;
  forward = c.loop-first.invariant.0;
  capped = step.by_end 128 _ _ _ refl c.ranges.last.fits (walk.ends-after c.zeros_end-end.ensures c.if-last-end.true);
}

-- the prefix of the zeros ends before the range does, and its entry has room
module _ (c : Else-last-end) where
  abbrev zeros : ℕ
  zeros = count_trailing_zeros 128 c.loop-first.start

  largest : Largest (from-to c.loop-first.start c.args.last) zeros
  largest = step.by-zeros 128 _ _ _ refl c.ranges.last.fits (walk.ends_by c.zeros_end-end.ensures (le_of_lt c.if-last-end.false))

  known : walked c.loop-first.start c.args.last ≡ prefix c.loop-first.start zeros ∷ prefixes_of 128 (from-to (c.loop-first.start + 2 ^ zeros) c.args.last)
  known = first-prefix 128 (from-to c.loop-first.start c.args.last) zeros c.ranges.last.fits largest

  inside : c.loop-first.at + (c.args.width + 1) ≤ length c.loop-first.out
  inside = entry-inside c.loop-first.invariant.1 known c.requires.1

  more : walked c.loop-first.start c.args.last ≡ prefix c.loop-first.start zeros ∷ walked (c.zeros_end-end.result + 1) c.args.last
  more = walk.one_more 128 c.ranges.last.fits largest (omega (arith, c.zeros_end-end.ensures))

pub slice_bounds-put_entry-count : goal.slice_bounds-put_entry-count
slice_bounds-put_entry-count c = omega (arith, inside c)

pub slice_bounds-put_entry-start : goal.slice_bounds-put_entry-start
slice_bounds-put_entry-start c = omega (arith, inside c)

pub put_entry-requires : goal.put_entry-requires
put_entry-requires c =
    let o = c.requires.0 in
    let loop = c.loop-first in
    let here = (goal.at.put_entry-requires c).Else-last-end in
    (entry-fits c.args.width o.wide loop.invariant.0 o.below (largest here), omega (arith, inside here, rest-length loop.out loop.at))

pub overflow_add-n : goal.overflow_add-n
overflow_add-n c = omega (arith, few-entered c.loop-first.invariant.1 (more (goal.at.overflow_add-n c).Else-last-end), at-most_254 (from-to c.args.first c.args.last) c.ranges.last.fits)

pub loop-first-smaller : goal.loop-first-smaller
loop-first-smaller c = omega (arith, c.zeros_end-end.ensures, pow_pos (count_trailing_zeros 128 c.loop-first.start))

pub loop-first-preserved : goal.loop-first-preserved
loop-first-preserved c = (omega (arith, c.if-last-end.false), entered c.loop-first.invariant.1 (more (goal.at.loop-first-preserved c).Else-last-end) c.put_entry.ensures)
