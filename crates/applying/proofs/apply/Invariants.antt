-- The changes before `at` are applied (Applying.antt).
use mathlib.Core.Path.{◌≡◌}
use Prim.Native.Nat.{◌-◌}
use lib.ListN.{length}
use Rattle.registry.specs.Limits.{most_records}
use Rattle.merged.specs.Listed.{MergedIn}
use Rattle.applying.proofs.Applying.{Reached}
use Rattle.applying.proofs.apply.Given as goal

abbrev pub invariant-loop-at : goal.invariant-loop-at
invariant-loop-at l = Reached l.initial.records l.records l.at × MergedIn l.records × (length l.starts ≡ most_records)

abbrev pub decreases-loop-at : goal.decreases-loop-at
decreases-loop-at l = length l.initial.records.changes.now - l.at
