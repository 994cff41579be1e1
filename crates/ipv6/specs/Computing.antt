-- Opens the definitions of this crate and of those below it, for theorems that hold by computing: `unfolding computing`.
use Rattle.ipv4.specs.Computing as Ipv4
use Rattle.elision.specs.Elision.{elided, elision_first, elision}
use Rattle.ipv6.specs.Ipv6.{two_bytes, group, or_else, last_group, groups, side, ipv6}
use Rattle.ipv6.specs.Read.{up_to}

unfoldable pub computing : Unit {0}
unfolding Ipv4.computing elided elision_first elision two_bytes group or_else last_group groups side ipv6 up_to
computing = tt
