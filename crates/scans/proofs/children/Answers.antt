use Prim.Native.Nat.{ℕ, ◌+◌}
use native.Mathlib.Omega.{arith}
use mathlib.Core.List.{append-nil}
use mathlib.Core.Path.{sym, ap, ◌∙◌}
use lib.ListN.{take}
use Rattle.octets.specs.Positions.{number_in}
use Rattle.forest.proofs.Scans.{down-scan}
use Rattle.containment.specs.Tests.{free_after}
use Rattle.scans.proofs.Walks.{run-start, run_end, within, asked-accepted, asked-few, Here, comparable}
use Rattle.scans.proofs.Turns.{down-stop, down-found, down_missed}
use borrow.Author.Rules.{rules}
use Rattle.scans.proofs.children.Goals as goal
use Rattle.scans.proofs.children.Goals.{After-range_start-at, At-loop-i, then-keeps, else-keeps}

-- the record of this turn
here : (c : After-range_start-at) → let a = c.args in
    Here a.image.now a.starts.now a.blocks a.range c.loop-i.i c.range_start-at.result c.width_of-width.result
here c =
    record {
      asked = c.requires.0;
      low = c.loop-i.invariant.0;
      high = c.loop-i-test.true;
      start = c.range_start-at.ensures;
      wide = c.width_of-width.ensures.0;
    }

-- the last address of the block that was kept
abbrev last-kept : At-loop-i → ℕ
last-kept c = let width = c.width_of-width.result in number_in c.args.image.now (c.loop-i.kept + width) width

pub loop-i-init : goal.loop-i-init
loop-i-init c =
    let q = c.requires.0 in (
      omega arith,
      q.selected.run_of.forward,
      omega arith,
      c.requires.1,
      λ h. absurd (omega arith),
      rw (run-start q) (sym (down-scan _ (asked-accepted q) _)),
    )

pub range_start-at-requires : goal.range_start-at-requires
range_start-at-requires c = within c.requires.0 c.loop-i.invariant.0 c.loop-i-test.true

pub at_least_at-requires : goal.at_least_at-requires
at_least_at-requires c = let k = comparable (here (goal.at.at_least_at-requires c).After-range_start-at) in (k.wide, omega (arith, k.fits))

pub returns-then-not-at_least_at : goal.returns-then-not-at_least_at
returns-then-not-at_least_at c =
    let l = c.loop-i in
    let k = asked-few c.requires.0 in
    record {
      full = l.invariant.3;
      few = omega arith;
      same =
          sym (append-nil (take l.n l.hits))
          ∙ (rw (down-stop (here (goal.at.returns-then-not-at_least_at c).After-range_start-at) c.at_least_at.ensures c.if-not-at_least_at.true (free_after l.n (last-kept (goal.at.returns-then-not-at_least_at c).At-loop-i))) at l.invariant.5);
    }

pub keeps-requires : goal.keeps-requires
keeps-requires c = (comparable (here (goal.at.keeps-requires c).After-range_start-at), c.loop-i.invariant.4)

pub offset_bounds-hits-n : goal.offset_bounds-hits-n
offset_bounds-hits-n c = let k = asked-few c.requires.0 in search rules

pub bounds-hits-n : goal.bounds-hits-n
bounds-hits-n c = let k = asked-few c.requires.0 in search rules

pub loop-i-preserved : goal.loop-i-preserved
loop-i-preserved c =
    let l = c.loop-i in
    let a = c.args in
    let v = c.width_of-width.result in
    let k = asked-few c.requires.0 in
    elim c.if-keeps.branch [
      | then-keeps w ↦
          let r = down-found (here (goal.at.loop-i-preserved c).After-range_start-at) l.n (last-kept (goal.at.loop-i-preserved c).At-loop-i) c.keeps.ensures l.hits l.invariant.3 l.invariant.5 w.if-keeps.true (omega arith) w.hits-is w.n-is (ap (λ (p : ℕ). number_in a.image.now (p + v) v) w.kept-is) in
          (omega arith, omega arith, omega arith, r.0, λ h. rw w.kept-is (comparable (here (goal.at.loop-i-preserved c).After-range_start-at)).fits, r.1)
      | else-keeps w ↦
          let r = down_missed (here (goal.at.loop-i-preserved c).After-range_start-at) l.n (last-kept (goal.at.loop-i-preserved c).At-loop-i) c.keeps.ensures l.hits l.invariant.3 l.invariant.5 w.if-keeps.false w.hits-is w.n-is (ap (λ (p : ℕ). number_in a.image.now (p + v) v) w.kept-is) in
          (omega arith, omega arith, omega arith, r.0, λ h. rw w.kept-is (l.invariant.4 (omega arith)), r.1)
    ]

pub returns : goal.returns
returns c =
    let l = c.loop-i in
    let k = asked-few c.requires.0 in
    record { full = l.invariant.3; few = omega arith; same = sym (append-nil (take l.n l.hits)) ∙ (rw (run_end c.requires.0 l.i c.loop-i-test.false l.invariant.1) at l.invariant.5) }
