-- Opens the definitions of this crate and of those below it, for theorems that hold by computing: `unfolding computing`.
use Rattle.numeral.specs.Computing as Numeral
use Rattle.octets.specs.Computing as Pieces
use Rattle.ipv4.specs.Ipv4.{prefixed, joined, exactly, one_byte, octets, ipv4}

unfoldable pub computing : Unit {0}
unfolding Numeral.computing Pieces.computing prefixed joined exactly one_byte octets ipv4
computing = tt
