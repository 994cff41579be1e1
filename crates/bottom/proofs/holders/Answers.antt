use Prim.Native.Nat.{◌≤◌}
use mathlib.Core.Path.{refl, sym, ◌∙◌}
use mathlib.Core.List.{append-nil}
use native.Mathlib.Omega.{arith}
use lib.ListN.{take}
use Rattle.address.specs.Address.{numbers}
use Rattle.scans.specs.Standing.{blocks_in}
use Rattle.bottom.specs.Testing.{is_holder}
use Rattle.bottom.proofs.Tests.{none_left}
use Rattle.bottom.proofs.Picks.{pick, pass, select_nil}
use borrow.Author.Rules.{rules}
use Rattle.bottom.proofs.holders.Goals as goal
use Rattle.bottom.proofs.holders.Goals.{After-leaves_gap, then-leaves_gap, else-leaves_gap}

-- the blocks are few
few : (c : After-leaves_gap) → c.args.n ≤ 4096
few c = c.requires.0.few

pub links_of-links-requires : goal.links_of-links-requires
links_of-links-requires c = c.requires.0

pub loop-i-init : goal.loop-i-init
loop-i-init c = (omega arith, omega arith, c.requires.2, refl)

pub leaves_gap-requires : goal.leaves_gap-requires
leaves_gap-requires c = record { gathered = c.requires.0; linked = c.links_of-links.ensures; known = c.loop-i-test.true }

pub overflow_cast-hits : goal.overflow_cast-hits
overflow_cast-hits c = let k = (c.requires.0.few) in search rules

pub overflow_add-hits : goal.overflow_add-hits
overflow_add-hits c = let k = c.requires.1.few in search rules

pub offset_bounds-hits-m : goal.offset_bounds-hits-m
offset_bounds-hits-m c = let k = (c.requires.0.few) in search rules

pub bounds-hits-m : goal.bounds-hits-m
bounds-hits-m c = let k = (c.requires.0.few) in search rules

pub overflow_add-m : goal.overflow_add-m
overflow_add-m c = let k = (c.requires.0.few) in search rules

pub loop-i-preserved : goal.loop-i-preserved
loop-i-preserved c =
    let p = c.requires in
    let k = few (goal.at.loop-i-preserved c).After-leaves_gap in
    let l = c.loop-i in
    let t = c.loop-i-test.true in
    elim c.if-leaves_gap.branch [
      | then-leaves_gap w ↦
          let r = pick p.0 l.i t _ c.leaves_gap.ensures l.hits l.m l.invariant.2 l.invariant.3 w.if-leaves_gap.true (omega arith) _ (p.1.number l.i t) w.hits-is w.m-is in
          (omega arith, omega arith, r.0, r.1)
      | else-leaves_gap w ↦
          let r = pass p.0 l.i t _ c.leaves_gap.ensures l.hits l.m l.invariant.2 l.invariant.3 w.if-leaves_gap.false w.hits-is w.m-is in
          (omega arith, omega arith, r.0, r.1)
    ]

pub returns : goal.returns
returns c =
    let p = c.requires in
    let a = c.args in
    let k = p.0.few in
    let l = c.loop-i in
    record {
      full = l.invariant.2;
      few = omega arith;
      same = sym (append-nil (take l.m l.hits)) ∙ (rw (none_left p.0 l.i c.loop-i-test.false, select_nil (is_holder (blocks_in a.image.now a.family) (numbers a.range))) at l.invariant.3);
    }
