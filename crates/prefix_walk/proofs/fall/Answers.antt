use Prim.Native.Nat.{◌+◌, ◌-◌, ◌^◌, ◌≤◌}
use mathlib.Core.Path.{◌≡◌, subst}
use mathlib.Core.List.{List, ◌∷◌}
use native.Mathlib.Omega.{arith}
use lib.ListN.{length}
use lib.Pow.{pow_pos}
use Rattle.output.proofs.Writing.{rest-length}
use Rattle.cidr.specs.First.{Top}
use Rattle.cidr.specs.Prefixes.{Prefix, prefix, from-to, prefixes_of}
use Rattle.cidr.proofs.Greedy.{first-prefix}
use Rattle.prefix_walk.specs.Entries.{fallen, Entered}
use Rattle.prefix_walk.proofs.Falling as falling
use Rattle.prefix_walk.proofs.Writing.{nothing-entered, entry-inside, few-entered, entered, all-entered}
use Rattle.prefix_walk.proofs.fall.Goals as goal
use Rattle.prefix_walk.proofs.fall.Goals.{After-size-addresses}

pub loop-left-init : goal.loop-left-init
loop-left-init c = (c.requires.0, nothing-entered c.args.width (fallen c.args.first c.args.number) c.args.out.now)

-- the next entry has room
module _ (c : After-size-addresses) where
  top : Top c.loop-left.left c.ilog2-free.result
  top = record { from = c.ilog2-free.ensures.power_le; to = falling.doubled c.ilog2-free.result c.ilog2-free.ensures.next_power_gt }

  known : fallen c.loop-left.start c.loop-left.left
      ≡ prefix c.loop-left.start c.ilog2-free.result ∷ prefixes_of 128 (from-to (c.loop-left.start + 2 ^ c.ilog2-free.result) (c.loop-left.start + c.loop-left.left - 1))
  known =
      first-prefix 128 (from-to c.loop-left.start (c.loop-left.start + c.loop-left.left - 1)) c.ilog2-free.result
      (falling.last-below c.loop-left.invariant.0 top) (falling.largest c.loop-left.invariant.0 top)

  inside : c.loop-left.at + (c.args.width + 1) ≤ length c.loop-left.out
  inside = entry-inside c.loop-left.invariant.1 known c.requires.1

  after : c.loop-left.start + c.size-addresses.result ≡ c.loop-left.start + 2 ^ c.ilog2-free.result
  after = rw c.size-addresses.ensures

  split : c.loop-left.left ≡ 2 ^ c.ilog2-free.result + (c.loop-left.left - c.size-addresses.result)
  split = omega (arith, c.size-addresses.ensures, c.ilog2-free.ensures.power_le)

  more : fallen c.loop-left.start c.loop-left.left
      ≡ prefix c.loop-left.start c.ilog2-free.result ∷ fallen (c.loop-left.start + c.size-addresses.result) (c.loop-left.left - c.size-addresses.result)
  more = falling.one_more c.loop-left.invariant.0 top _ _ after split

pub slice_bounds-put_entry-count : goal.slice_bounds-put_entry-count
slice_bounds-put_entry-count c = omega (arith, inside c)

pub slice_bounds-put_entry-start : goal.slice_bounds-put_entry-start
slice_bounds-put_entry-start c = omega (arith, inside c)

pub put_entry-requires : goal.put_entry-requires
put_entry-requires c =
    let loop = c.loop-left in
    let here = (goal.at.put_entry-requires c).After-size-addresses in
    (falling.fits loop.invariant.0 (top here), omega (arith, inside here, rest-length loop.out loop.at))

pub overflow_add-start : goal.overflow_add-start
overflow_add-start c =
    let here = (goal.at.overflow_add-start c).After-size-addresses in
    omega (arith, after here, falling.not_last c.loop-left.invariant.0 (top here))

pub overflow_add-n : goal.overflow_add-n
overflow_add-n c = omega (arith, few-entered c.loop-left.invariant.1 (more (goal.at.overflow_add-n c).After-size-addresses), falling.few c.requires.0)

pub loop-left-smaller : goal.loop-left-smaller
loop-left-smaller c = omega (arith, split (goal.at.loop-left-smaller c).After-size-addresses, pow_pos c.ilog2-free.result)

pub loop-left-preserved : goal.loop-left-preserved
loop-left-preserved c =
    let here = (goal.at.loop-left-preserved c).After-size-addresses in
    (falling.still c.loop-left.invariant.0 (top here) _ _ (after here) (split here), entered c.loop-left.invariant.1 (more here) c.put_entry.ensures)

pub returns : goal.returns
returns c =
    let loop = c.loop-left in
    let none = falling.none-fallen loop.start loop.left loop.invariant.0 c.loop-left-test.false in
    all-entered (subst (λ (rest : List Prefix). Entered c.args.width (fallen c.args.first c.args.number) rest c.args.out.now loop.out loop.at loop.n) none loop.invariant.1)
