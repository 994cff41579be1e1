-- Opens the definitions of this crate and of those below it, for theorems that hold by computing: `unfolding computing`.
use Rattle.address.specs.Computing as Address
use Rattle.numeral.specs.Numeral.{digit_value, are_digits, digits_from, numeral_from, numeral, leading_zero, decimal, h16}
use Rattle.numeral.specs.Digits.{digit_of, digits_before, numeral_text, following, spelled}

unfoldable pub computing : Unit {0}
unfolding Address.computing digit_value are_digits digits_from numeral_from numeral leading_zero decimal h16 digit_of digits_before numeral_text following spelled
computing = tt
