-- Opens the definitions of this crate and of those below it, for theorems that hold by computing: `unfolding computing`.
use Rattle.image.specs.Computing as Image
use Rattle.rows.specs.Entry.{entries_of, row_of}

unfoldable pub computing : Unit {0}
unfolding Image.computing entries_of row_of
computing = tt
