-- Opens the definitions of this crate and of those below it, for theorems that hold by computing: `unfolding computing`.
use Rattle.octets.specs.Computing as Octets
use Rattle.address.specs.Ranges.{single, covers, equals, strictly_covers, strictly_inside, overlaps, well_formed, sorts_after, crosses}

unfoldable pub computing : Unit {0}
unfolding Octets.computing single covers equals strictly_covers strictly_inside overlaps well_formed sorts_after crosses
computing = tt
