use Prim.Native.Nat.{◌-◌, ◌<◌}
use mathlib.Core.Path.{◌≡◌, ◌∙◌}
use native.Mathlib.Omega.{arith}
use lib.ListN.{drop}
use borrow.Author.Rules.{rules}
use Rattle.ip_groups.proofs.Runs.{runs_none, runs_all, first-most, zero-before, other-before, run-before, later-before}
use Rattle.ip_groups.specs.Groups.{zeros_first}
use Rattle.ip_groups.proofs.zero_runs.Goals as goal
use Rattle.ip_groups.proofs.zero_runs.Goals.{Joined-groups-i-eq0, then-groups-i-eq0, else-groups-i-eq0}

pub loop-i-init : goal.loop-i-init
loop-i-init c = (omega arith, runs_none c.args.groups.now)

pub overflow_add-first : goal.overflow_add-first
overflow_add-first c = omega (arith, first-most c.loop-i.invariant.1)

-- the zeros that stand first from here on
first_now : (c : Joined-groups-i-eq0) → c.if-groups-i-eq0.first ≡ zeros_first (drop (c.loop-i.i - 1) c.args.groups.now)
first_now c =
    let l = c.loop-i in
    let some_left : 0 < l.i = search rules in
    elim c.if-groups-i-eq0.branch [
      | then-groups-i-eq0 w ↦ w.first-is ∙ zero-before some_left l.invariant.0 l.invariant.1 w.if-groups-i-eq0.true
      | else-groups-i-eq0 w ↦ w.first-is ∙ other-before some_left l.invariant.0 l.invariant.1 w.if-groups-i-eq0.false
    ]

pub loop-i-preserved-then-longest-first : goal.loop-i-preserved-then-longest-first
loop-i-preserved-then-longest-first c =
    let l = c.loop-i in
    (omega arith, run-before (search rules) l.invariant.0 l.invariant.1 (first_now (goal.at.loop-i-preserved-then-longest-first c).Joined-groups-i-eq0) (search rules))

pub loop-i-preserved : goal.loop-i-preserved
loop-i-preserved c =
    let l = c.loop-i in
    (omega arith, later-before (search rules) l.invariant.0 l.invariant.1 (first_now (goal.at.loop-i-preserved c).Joined-groups-i-eq0) (search rules))

pub returns : goal.returns
returns c = runs_all (omega arith) c.loop-i.invariant.1
