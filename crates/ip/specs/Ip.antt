-- S8.1, S8.5: the text of an address as its bytes, high byte first; none where it is malformed.
use Rattle.std.specs.Prelude.{ℕ, List, cond, leb, length, Option}
use Prim.Native.Char.{code}
use Rattle.octets.specs.Split.{before, after}
use Rattle.ipv4.specs.Ipv4.{ipv4}
use Rattle.ipv6.specs.Ipv6.{or_else, ipv6}

-- S8.5: the zone identifier dropped: the first percent sign and all after it, provided that at least one byte follows
unfoldable pub without_zone : List ℕ → List ℕ
without_zone s = cond (leb 1 (length (after (code "%") s))) (before (code "%") s) s

-- of either family; IPv4 text never names an IPv6 address, and it has no zone
unfoldable pub address_of : List ℕ → Option (List ℕ)
address_of s = or_else (ipv4 s) (ipv6 (without_zone s))
