use mathlib.Core.Path.{◌≡◌, sym, ◌∙◌, ap}
use mathlib.Core.List.{List}
use Prim.Native.Nat.{ℕ, ◌<◌}
use native.Mathlib.Omega.{arith}
use lib.ListN.{get_or}
use Rattle.records.specs.Record.{follows}
use Rattle.changes.specs.Change.{keyed}
use Rattle.halves.proofs.Halves.{halve_none}
use Rattle.merged.specs.Held.{bytes_at, parsed_from}
use Rattle.by_key.proofs.Ranks.{ranked_up, ranked_down, ranked_end}
use Rattle.by_key.proofs.rank.Goals as goal
use Rattle.by_key.proofs.rank.Goals.{After-comes_before, After-middle-i}

pub overflow_cast-high : goal.overflow_cast-high
overflow_cast-high c = omega (arith, c.requires.0.few)

pub loop-low-init : goal.loop-low-init
loop-low-init c = halve_none (omega arith)

-- the number in the middle is one of a record
numbered : (c : After-middle-i) → c.middle-i.result < c.args.records.now.count
numbered c = omega (arith, c.middle-i.ensures, c.loop-low.invariant.ends)

-- the test, of the record at this start
test : (c : After-comes_before) → let a = c.args in
    let m = a.records.now in
    follows (parsed_from (bytes_at m.image.now m.changes.now (get_or m.starts c.middle-i.result 0))) (keyed a.tag a.key.now) ≡ c.comes_before.result
test c =
    let a = c.args in
    sym (c.comes_before.ensures ∙ ap (λ (x : List ℕ). follows (parsed_from x) (keyed a.tag a.key.now)) c.record.ensures.is)

pub loop-low-smaller-then-comes_before : goal.loop-low-smaller-then-comes_before
loop-low-smaller-then-comes_before c = omega (arith, c.middle-i.ensures)

pub loop-low-preserved-then-comes_before : goal.loop-low-preserved-then-comes_before
loop-low-preserved-then-comes_before c =
    ranked_up c.requires.0 _ c.loop-low.invariant c.middle-i.ensures.0 c.middle-i.ensures.1 (test (goal.at.loop-low-preserved-then-comes_before c).After-comes_before ∙ c.if-comes_before.true)

pub loop-low-smaller : goal.loop-low-smaller
loop-low-smaller c = omega (arith, c.middle-i.ensures)

pub loop-low-preserved : goal.loop-low-preserved
loop-low-preserved c =
    ranked_down c.requires.0 _ c.loop-low.invariant c.middle-i.ensures.0 c.middle-i.ensures.1 (test (goal.at.loop-low-preserved c).After-comes_before ∙ c.if-comes_before.false)

pub returns : goal.returns
returns c = ranked_end c.requires.0 _ c.loop-low.invariant c.loop-low-test.false
