-- The line feeds that are counted, and those from i on, are all.
use Prim.Native.Nat.{◌+◌, ◌≤◌}
use mathlib.Core.Path.{◌≡◌}
use lib.Dec.{eqb}
use lib.ListN.{drop}
use Rattle.std.specs.List.{count_by}
use Rattle.batch_paths.proofs.count_paths.Given as goal

abbrev pub invariant-loop-b : goal.invariant-loop-b
invariant-loop-b l = (l.feeds ≤ l.b-index) × (l.feeds + count_by (λ b. eqb b 10) (drop l.b-index l.text) ≡ count_by (λ b. eqb b 10) l.text)
