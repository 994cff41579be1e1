-- Opens the definitions of this crate and of those below it, for theorems that hold by computing: `unfolding computing`.
use Rattle.address.specs.Computing as Address
use Rattle.image.specs.Computing as Image
use Rattle.forest.specs.Relations.{is_best, select, smallest, largest, lookup, up, top, down, candidates, holds_some, bottom}
use Rattle.forest.specs.Defects.{in_sequence, admissible, accepted_after, accepted}

unfoldable pub computing : Unit {0}
unfolding Address.computing Image.computing is_best select smallest largest lookup up top down candidates holds_some bottom in_sequence admissible accepted_after accepted
computing = tt
