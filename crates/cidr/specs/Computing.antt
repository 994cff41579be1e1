-- Opens the definitions of this crate and of those below it, for theorems that hold by computing: `unfolding computing`.
use Rattle.address.specs.Computing as Address
use Rattle.cidr.specs.Prefixes.{addresses, halved, prefixes_of}

unfoldable pub computing : Unit {0}
unfolding Address.computing addresses halved prefixes_of
computing = tt
