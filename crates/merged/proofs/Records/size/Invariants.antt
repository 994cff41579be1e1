-- The size of the records so far.
use mathlib.Core.Path.{◌≡◌}
use Prim.Native.Nat.{◌*◌, ◌≤◌}
use lib.ListN.{length, take}
use Rattle.registry.specs.Limits.{most_image}
use Rattle.merged.specs.Held.{row_at}
use Rattle.merged.proofs.Records.size.Given as goal

abbrev pub invariant-loop-start : goal.invariant-loop-start
invariant-loop-start l = (l.size ≡ length (row_at l.self.image.now l.self.changes.now (take l.start-index l.self.starts))) × (l.size ≤ most_image * l.start-index)
