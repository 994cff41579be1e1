use mathlib.Core.Path.{◌≡◌, ◌∙◌}
use Prim.Native.Nat.{◌<◌}
use native.Mathlib.Omega.{arith}
use lib.ListN.{length, length-set}
use Rattle.changes.specs.Limits.{most_entries}
use Rattle.merged.proofs.Index.{shift_start, shift_step, shift_length, shift_done}
use Rattle.merged.proofs.insert_at.Goals as goal
use Rattle.merged.proofs.insert_at.Goals.{In-loop-i, Start}

room : (a : Start) → a.args.n < length a.args.index.now
room a = omega (arith, a.requires.0, a.requires.1)

pub loop-i-init : goal.loop-i-init
loop-i-init c = (omega arith, omega arith, shift_start _ _ (room c))

long : (c : In-loop-i) → c.loop-i.i < most_entries
long c = omega (arith, c.requires.1, c.loop-i.invariant.1)

pub bounds-index-i : goal.bounds-index-i
bounds-index-i c = omega (arith, c.requires.1, c.loop-i.invariant.1)

pub bounds-index-i-in-loop-i : goal.bounds-index-i-in-loop-i
bounds-index-i-in-loop-i c = omega (arith, c.requires.1, c.loop-i.invariant.1)

pub loop-i-preserved : goal.loop-i-preserved
loop-i-preserved c =
    let l = c.loop-i in
    (omega (arith, c.loop-i-test.true), omega (arith, l.invariant.1), shift_step _ _ (room (goal.at.loop-i-preserved c).Start) l.i _ l.invariant.2 (omega (arith, c.loop-i-test.true)) l.invariant.1)

pub bounds-index-i-2 : goal.bounds-index-i-2
bounds-index-i-2 c = omega (arith, c.requires, c.loop-i.invariant.1)

pub returns : goal.returns
returns c =
    let l = c.loop-i in
    let e : l.i ≡ c.args.at = omega (arith, l.invariant.0, c.loop-i-test.false) in
    record {
      first = rw (← e) (shift_done _ _ (room (goal.at.returns c).Start) l.i _ l.invariant.2 l.invariant.1 c.args.start);
      full = length-set l.index l.i c.args.start ∙ shift_length _ _ (room (goal.at.returns c).Start) l.i _ l.invariant.2 l.invariant.1 ∙ c.requires.0;
    }
