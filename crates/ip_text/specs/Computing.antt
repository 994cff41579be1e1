-- Opens the definitions of this crate and of those below it, for theorems that hold by computing: `unfolding computing`.
use Rattle.octets.specs.Computing as Pieces
use Rattle.numeral.specs.Computing as Numeral
use Rattle.ip_groups.specs.Computing as IpGroups
use Rattle.ip_text.specs.Text.{shortened, is_mapped, ipv6_text, text_of}

unfoldable pub computing : Unit {0}
unfolding Pieces.computing Numeral.computing IpGroups.computing shortened is_mapped ipv6_text text_of
computing = tt
