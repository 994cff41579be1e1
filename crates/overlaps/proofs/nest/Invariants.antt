-- The open blocks above d have ended, so the search goes on among the first d (image: Opens.antt).
use mathlib.Core.Path.{◌≡◌}
use Prim.Native.Nat.{◌≤◌}
use Rattle.registry.specs.Tags.{width_of}
use Rattle.records.specs.Record.{range_of}
use Rattle.nesting.specs.Nest.{nest_of}
use Rattle.merged.specs.Held.{parsed_from}
use Rattle.overlaps.specs.Overlaps.{open_last}
use Rattle.overlaps.proofs.nest.Given as goal

abbrev pub invariant-loop-d : goal.invariant-loop-d
invariant-loop-d l = (l.d ≤ l.depth) × (l.width ≡ width_of (parsed_from l.r).tag) × (nest_of (open_last l.records l.stack) (range_of (parsed_from l.r)) l.d ≡ nest_of (open_last l.records l.stack) (range_of (parsed_from l.r)) l.depth)
