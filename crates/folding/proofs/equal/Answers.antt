-- `equal`: std compares the bytes pair by pair.
use mathlib.Core.Path.{◌∙◌}
use Rattle.folding.proofs.Alike.{pointwise-alike}
use Rattle.folding.proofs.equal.Goals as goal

pub returns : goal.returns
returns c = c.eq.ensures ∙ pointwise-alike c.args.a.now c.args.b.now
