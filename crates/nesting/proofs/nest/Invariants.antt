-- The loop: the open blocks above d have ended, so the search goes on among the first d (Search.antt).
use mathlib.Core.Path.{◌≡◌}
use Prim.Native.Nat.{◌≤◌}
use Rattle.address.specs.Positions.{range_in}
use Rattle.nesting.specs.Nest.{nest_of, open_last}
use Rattle.nesting.proofs.nest.Given as goal

abbrev pub invariant-loop-d : goal.invariant-loop-d
invariant-loop-d l = (l.d ≤ l.depth) × (nest_of (open_last l.opens l.width l.stack) (range_in l.image l.start l.width) l.d ≡ nest_of (open_last l.opens l.width l.stack) (range_in l.image l.start l.width) l.depth)
