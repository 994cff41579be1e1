use Prim.Native.Nat.{◌+◌}
use mathlib.Core.Path.{◌≡◌, ap}
use mathlib.Core.List.{◌∷◌}
use native.Mathlib.Omega.{arith}
use lib.ListN.{length}
use lib.Pow.{pow_pos}
use Rattle.cidr.specs.Prefixes.{prefix, from-to}
use Rattle.cidr.proofs.Theorem.{at-most_254}
use Rattle.next_prefix.specs.Walked.{walked}
use Rattle.next_prefix.proofs.Walk as walk
use Rattle.next_prefix.proofs.count.Goals as goal
use Rattle.next_prefix.proofs.count.Goals.{Else-last-p}

pub returns-then-last-p : goal.returns-then-last-p
returns-then-last-p c =
    let one = walk.last_one 128 c.ranges.last.fits c.prefix_at-p.ensures.0 c.prefix_at-p.ensures.1 c.if-last-p.true in
    omega (arith, c.loop-p.invariant.1, ap length one)

-- the prefix at the start ends before the range does
module _ (c : Else-last-p) where
  more : walked c.loop-p.start c.args.last ≡ prefix c.loop-p.start c.prefix_at-p.result.free ∷ walked (c.prefix_at-p.result.end + 1) c.args.last
  more = walk.one_more 128 c.ranges.last.fits c.prefix_at-p.ensures.0 (omega (arith, c.prefix_at-p.ensures.1))

pub overflow_add-n : goal.overflow_add-n
overflow_add-n c =
    omega (arith, c.loop-p.invariant.1, ap length (more (goal.at.overflow_add-n c).Else-last-p), at-most_254 (from-to c.args.first c.args.last) c.ranges.last.fits)

pub loop-p-smaller : goal.loop-p-smaller
loop-p-smaller c = omega (arith, c.prefix_at-p.ensures.1, pow_pos c.prefix_at-p.result.free)

pub loop-p-preserved : goal.loop-p-preserved
loop-p-preserved c = (omega (arith, c.if-last-p.false), omega (arith, c.loop-p.invariant.1, ap length (more (goal.at.loop-p-preserved c).Else-last-p)))
