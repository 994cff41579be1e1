-- The part of the image that the crate below finds.
use borrow.Author.Rules.{rules}
use Rattle.calls.specs.Calls.{part_of}
use Rattle.parts.proofs.handle.Goals as goal

pub returns : goal.returns
unfolding part_of
returns c = c.part.ensures
