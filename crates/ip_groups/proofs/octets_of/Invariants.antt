-- After i turns the first i bytes are there.
use mathlib.Core.Path.{◌≡◌}
use lib.ListN.{length, take}
use Rattle.ip_groups.proofs.octets_of.Given as goal

abbrev pub invariant-loop-i : goal.invariant-loop-i
invariant-loop-i l = (length l.octets ≡ 4) × (take l.i l.octets ≡ take l.i l.bytes)
