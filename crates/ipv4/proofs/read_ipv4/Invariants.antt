-- `read_ipv4` is `ipv4`: the i octets read, in front of those of the pieces left, are the octets of s.
use Prim.Native.Nat.{◌≤◌}
use Prim.Native.Char.{code}
use mathlib.Core.Path.{◌≡◌}
use lib.ListN.{length, take}
use Rattle.octets.specs.Split.{split}
use Rattle.ipv4.specs.Ipv4.{prefixed, octets}
use Rattle.ipv4.proofs.read_ipv4.Given as goal

abbrev pub invariant-loop-i : goal.invariant-loop-i
invariant-loop-i l = (length l.bytes ≡ 4) × (length l.rest ≤ length l.s) × (prefixed (take l.i l.bytes) (octets (split (code ".") l.rest)) ≡ octets (split (code ".") l.s))
