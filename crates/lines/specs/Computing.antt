-- Opens the definitions of this crate and of those below it, for theorems that hold by computing: `unfolding computing`.
use Rattle.numeral.specs.Computing as Numeral
use Rattle.calls.specs.Computing as Calls
use Rattle.line_text.specs.Line.{line_text, numbers_in}
use Rattle.lines.specs.Lined.{text_in}

unfoldable pub computing : Unit {0}
unfolding Numeral.computing Calls.computing line_text numbers_in text_in
computing = tt
