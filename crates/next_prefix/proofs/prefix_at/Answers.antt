-- The zeros decide where their prefix ends inside the range, and else what remains.
use mathlib.Core.Path.{refl}
use native.Mathlib.Nat.{le_of_lt}
use native.Mathlib.Omega.{arith}
use Rattle.cidr.specs.First.{Largest}
use Rattle.cidr.specs.Prefixes.{from-to}
use Rattle.cidr.proofs.Step as step
use Rattle.next_prefix.proofs.Walk as walk
use Rattle.next_prefix.proofs.prefix_at.Goals as goal
use Rattle.next_prefix.proofs.prefix_at.Goals.{After-cap-most}

pub returns-then-whole-last : goal.returns-then-whole-last
returns-then-whole-last c =
    let end = c.zeros_end-whole.ensures in
    (step.by-zeros 128 _ _ _ refl c.ranges.last.fits (walk.ends_by end c.if-whole-last.true), end)

-- where the zeros allow more than remains
largest : (c : After-cap-most) → Largest (from-to c.args.start c.args.last) c.cap-most.result
largest c =
    step.by-room (step.by_end 128 _ _ _ refl c.ranges.last.fits (walk.ends-after c.zeros_end-whole.ensures (le_of_lt c.if-whole-last.false)))
    (omega arith) c.cap-most.ensures.1

pub last_of-end-requires : goal.last_of-end-requires
last_of-end-requires c =
    let l = largest c in
    (c.cap-most.ensures.0, walk.ends-inside 128 c.ranges.last.fits l)

pub returns : goal.returns
returns c = (largest (goal.at.returns c).After-cap-most, c.last_of-end.ensures)
