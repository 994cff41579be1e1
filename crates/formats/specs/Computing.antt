-- Opens the definitions of this crate and of those below it, for theorems that hold by computing: `unfolding computing`.
use Rattle.octets.specs.Computing as Pieces
use Rattle.formats.specs.Template.{is_allowed, name_from, name_in, template_of, end_of}

unfoldable pub computing : Unit {0}
unfolding Pieces.computing is_allowed name_from name_in template_of end_of
computing = tt
