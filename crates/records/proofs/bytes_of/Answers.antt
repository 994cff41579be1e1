-- A part of the image.
use Rattle.fields.specs.Slices.{part_slice}
use Rattle.records.proofs.bytes_of.Goals as goal

pub returns : goal.returns
returns c = part_slice _ _ _ c.requires.forward
