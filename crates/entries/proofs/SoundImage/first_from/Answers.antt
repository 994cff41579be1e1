-- The record in the middle has a number, and its tag stands where it starts.
use mathlib.Core.Path.{◌≡◌}
use native.Mathlib.Omega.{arith}
use lib.ListN.{get_or}
use Rattle.image.specs.Index.{tag_of}
use Rattle.halves.proofs.Halves.{halve_none, halve_up, halve_down}
use Rattle.entries.proofs.Tags.{tags-sorted, first_found}
use Rattle.entries.proofs.SoundImage.first_from.Goals as goal
use Rattle.entries.proofs.SoundImage.first_from.Goals.{After-start_of}

pub loop-low-init : goal.loop-low-init
loop-low-init c = halve_none (omega arith)

pub start_of-requires : goal.start_of-requires
start_of-requires c = omega (arith, c.middle-i.ensures, c.loop-low.invariant.ends)

-- the byte at the start of the record in the middle is its tag
tag-here : (c : After-start_of) → get_or c.args.self.bytes.now c.start_of.result 0 ≡ tag_of c.args.self.bytes.now c.middle-i.result
unfolding tag_of
tag-here c = rw c.start_of.ensures.is

pub bounds-self-start_of : goal.bounds-self-start_of
bounds-self-start_of c = omega (arith, c.start_of.ensures.inside)

pub loop-low-smaller-then-self-start_of : goal.loop-low-smaller-then-self-start_of
loop-low-smaller-then-self-start_of c = omega (arith, c.middle-i.ensures)

pub loop-low-preserved-then-self-start_of : goal.loop-low-preserved-then-self-start_of
loop-low-preserved-then-self-start_of c =
    halve_up (tags-sorted _ _ _ c.args.self.indexed.sound) _ _ _ c.loop-low.invariant c.middle-i.ensures.0 c.middle-i.ensures.1
    (omega (arith, tag-here (goal.at.loop-low-preserved-then-self-start_of c).After-start_of, c.if-self-start_of.true))

pub loop-low-smaller : goal.loop-low-smaller
loop-low-smaller c = omega (arith, c.middle-i.ensures)

pub loop-low-preserved : goal.loop-low-preserved
loop-low-preserved c =
    halve_down (tags-sorted _ _ _ c.args.self.indexed.sound) _ _ _ c.loop-low.invariant c.middle-i.ensures.0 c.middle-i.ensures.1
    (omega (arith, tag-here (goal.at.loop-low-preserved c).After-start_of, c.if-self-start_of.false))

pub returns : goal.returns
returns c = first_found c.loop-low.invariant c.loop-low-test.false
