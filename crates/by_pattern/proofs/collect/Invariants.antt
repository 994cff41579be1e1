-- The records of the run that are picked: what is found so far, followed by what the rest of the records gives, is the whole.
use Prim.Native.Nat.{◌≤◌}
use mathlib.Core.Path.{◌≡◌}
use mathlib.Core.List.{◌++◌}
use lib.ListN.{length, take}
use Rattle.search.proofs.Picks.{found_from}
use Rattle.by_pattern.proofs.collect.Given as goal

abbrev pub invariant-loop-i : goal.invariant-loop-i
invariant-loop-i l = (length l.hits ≡ 4096) × (l.fn.run.from ≤ l.i) × (l.i ≤ l.fn.run.until) × (l.n ≤ l.i)
    × (take l.n l.hits ++ found_from l.image l.fn.run l.which l.fold l.form l.pattern l.i ≡ found_from l.image l.fn.run l.which l.fold l.form l.pattern 0)
