-- Opens the definitions of this crate and of those below it, for theorems that hold by computing: `unfolding computing`.
use Rattle.ipv6.specs.Computing as Ipv6
use Rattle.ip.specs.Ip.{without_zone, address_of}
use Rattle.ip.specs.Answer.{answer}

unfoldable pub computing : Unit {0}
unfolding Ipv6.computing without_zone address_of answer
computing = tt
