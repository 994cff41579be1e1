-- The four bytes, compared at once.
use mathlib.Core.Path.{◌∙◌}
use Rattle.image.proofs.Readings.{starts_with-is}
use Rattle.image.proofs.starts_right.Goals as goal

pub returns : goal.returns
returns c = c.starts_with.ensures.value ∙ starts_with-is _
