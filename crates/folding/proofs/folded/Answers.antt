-- `folded` is std's small letter of a capital.
use mathlib.Core.Path.{◌∙◌}
use Rattle.folding.proofs.Fold.{lowercase-is}
use Rattle.folding.proofs.folded.Goals as goal

pub returns : goal.returns
returns c = c.to_ascii_lowercase.ensures.value ∙ lowercase-is c.args.c
