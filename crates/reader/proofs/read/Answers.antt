-- The field no field on is the field at the position.
use Rattle.fields.specs.Positions.{passed}
use Rattle.reader.proofs.read.Goals as goal

pub returns : goal.returns
unfolding passed
returns c = c.field_after.ensures
