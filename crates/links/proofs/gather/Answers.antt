use Prim.Native.Nat.{ℕ, ◌+◌, ◌-◌, ◌≤◌, ◌<◌}
use mathlib.Core.Path.{◌≡◌, ◌∙◌}
use native.Mathlib.Omega.{arith}
use lib.ListN.{length, get_or, length-set}
use Rattle.links.proofs.Gathers.{start-more}
use borrow.Author.Rules.{rules}
use Rattle.links.proofs.gather.Goals as goal

pub loop-i-init : goal.loop-i-init
loop-i-init c =
    let forward = c.requires.0.forward in
    (omega arith, omega arith, c.requires.1, λ k h. absurd (omega arith))

pub range_start-requires : goal.range_start-requires
range_start-requires c =
    let few = c.requires.0.few in
    let low = c.requires.0.low c.loop-i.i (omega arith) c.loop-i-test.true in
    (omega arith, low)

pub overflow_cast-firsts : goal.overflow_cast-firsts
overflow_cast-firsts c =
    let few = c.requires.0.few in
    let low = c.requires.0.low c.loop-i.i (omega arith) c.loop-i-test.true in
    search rules

pub offset_bounds-firsts-n : goal.offset_bounds-firsts-n
offset_bounds-firsts-n c = let few = c.requires.0.few in search rules

pub bounds-firsts-n : goal.bounds-firsts-n
bounds-firsts-n c = let few = c.requires.0.few in search rules

pub overflow_add-n : goal.overflow_add-n
overflow_add-n c = let few = c.requires.0.few in search rules

pub loop-i-preserved : goal.loop-i-preserved
loop-i-preserved c =
    let l = c.loop-i in
    let few = c.requires.0.few in
    let full = l.invariant.2 in (
      omega arith,
      omega arith,
      length-set l.firsts l.n _ ∙ full,
      start-more c.args.starts.now l.firsts c.args.blocks.from l.n c.range_start.result (omega arith) (rw l.invariant.0 c.range_start.ensures) l.invariant.3,
    )

pub returns : goal.returns
returns c = record { counted = omega arith; start = c.loop-i.invariant.3 }
