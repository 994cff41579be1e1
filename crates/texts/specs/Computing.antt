-- Opens the definitions of this crate and of those below it, for theorems that hold by computing: `unfolding computing`.
use Rattle.address.specs.Computing as Address
use Rattle.texts.specs.Host.{is_label_byte, is_label, is_host_name, fold, without_final_dot, host_of}
use Rattle.texts.specs.Texts.{good_text, good_host}
use Rattle.texts.specs.Compare.{fold_if, alike}

unfoldable pub computing : Unit {0}
unfolding Address.computing is_label_byte is_label is_host_name fold without_final_dot host_of good_text good_host fold_if alike
computing = tt
