-- Opens the definitions of this crate and of those below it, for theorems that hold by computing: `unfolding computing`.
use Rattle.ip.specs.Computing as Ip
use Rattle.ip_text.specs.Computing as Text
use Rattle.address_text.specs.Call.{is_address, written_of, text_after}

unfoldable pub computing : Unit {0}
unfolding Ip.computing Text.computing is_address written_of text_after
computing = tt
