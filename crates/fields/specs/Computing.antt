-- Opens the definitions of this crate, for theorems that hold by computing: `unfolding computing`.
use Rattle.fields.specs.Field.{head_of}
use Rattle.fields.specs.Positions.{field_at, end_by, passed}

unfoldable pub computing : Unit {0}
unfolding head_of field_at end_by passed
computing = tt
