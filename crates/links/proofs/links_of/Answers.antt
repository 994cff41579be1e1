use Prim.Native.Nat.{◌-◌, ◌≤◌}
use mathlib.Core.Path.{◌≡◌, refl, ◌∙◌}
use native.Mathlib.Omega.{arith}
use lib.ListN.{length, length-set}
use Rattle.scans.specs.Standing.{blocks_in}
use Rattle.links.specs.Links.{Linked}
use Rattle.links.proofs.Hops.{linked-more}
use borrow.Author.Rules.{rules}
use Rattle.links.proofs.links_of.Goals as goal

pub loop-i-init : goal.loop-i-init
loop-i-init c =
    let all = c.requires.counted in
    (refl, omega arith, λ j p q. absurd (omega arith))

pub hop-next-requires : goal.hop-next-requires
hop-next-requires c = (c.requires, omega arith, λ j p q. c.loop-i.invariant.2 j (omega arith) q)

pub overflow_cast-links : goal.overflow_cast-links
overflow_cast-links c =
    let g = c.requires in
    let few = g.few in
    let all = g.counted in
    let u = c.hop-next.ensures.upto in
    omega arith

pub offset_bounds-links-i : goal.offset_bounds-links-i
offset_bounds-links-i c = let few = c.requires.few in search rules

pub bounds-links-i : goal.bounds-links-i
bounds-links-i c = let few = c.requires.few in search rules

pub loop-i-preserved : goal.loop-i-preserved
loop-i-preserved c =
    let l = c.loop-i in
    let z = l.invariant.0 in
    let few = c.requires.few in (
      length-set l.links (l.i - 1) _ ∙ z,
      omega arith,
      linked-more (blocks_in c.args.image.now c.args.family) l.links (l.i - 1) c.hop-next.result (omega arith) c.hop-next.ensures (λ j p q. l.invariant.2 j (omega arith) q),
    )

pub returns : goal.returns
returns c = λ j p q. c.loop-i.invariant.2 j (omega arith) q
