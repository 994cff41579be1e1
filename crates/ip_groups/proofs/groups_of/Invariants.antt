-- The groups read so far, and those of the rest of the address, are all.
use Prim.Native.Nat.{◌*◌}
use mathlib.Core.Path.{◌≡◌}
use mathlib.Core.List.{◌++◌}
use lib.ListN.{length, take, drop}
use Rattle.ip_groups.specs.Groups.{groups_of}
use Rattle.ip_groups.proofs.groups_of.Given as goal

abbrev pub invariant-loop-i : goal.invariant-loop-i
invariant-loop-i l = (length l.groups ≡ 8) × (take l.i l.groups ++ groups_of (drop (2 * l.i) l.bytes) ≡ groups_of l.bytes)
