-- Opens the definitions of this crate and of those below it, for theorems that hold by computing: `unfolding computing`.
use Rattle.texts.specs.Computing as Name
use Rattle.pattern.specs.Pattern.{pattern_byte, is_pattern, is_suffix, form_of, pattern_of, matches, matches_form}

unfoldable pub computing : Unit {0}
unfolding Name.computing pattern_byte is_pattern is_suffix form_of pattern_of matches matches_form
computing = tt
