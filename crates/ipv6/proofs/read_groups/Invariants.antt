-- `read_groups` reads the groups: the bytes read, in front of the groups of the pieces left, are the groups of s.
use Prim.Native.Nat.{◌≤◌}
use Prim.Native.Char.{code}
use mathlib.Core.Path.{◌≡◌}
use lib.ListN.{length}
use Rattle.ipv4.specs.Ipv4.{prefixed}
use Rattle.ipv6.specs.Ipv6.{groups}
use Rattle.octets.specs.Split.{split, FirstPiece}
use Rattle.ipv6.proofs.read_groups.Given as goal

abbrev pub invariant-loop-end : goal.invariant-loop-end
invariant-loop-end l =
    (length l.rest ≤ length l.s) × FirstPiece (code ":") l.rest l.end × (prefixed l.read (groups l.tail (split (code ":") l.rest)) ≡ groups l.tail (split (code ":") l.s))

abbrev pub decreases-loop-end : goal.decreases-loop-end
decreases-loop-end l = length l.rest
