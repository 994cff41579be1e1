-- From the first record whose tag is not below first up to the first whose tag is above last.
use mathlib.Core.Path.{refl}
use Rattle.entries.proofs.Tags.{run-between}
use Rattle.entries.proofs.SoundImage.run_of.Goals as goal

pub returns : goal.returns
returns c =
    (refl, refl, run-between _ _ _ _ _ _ c.requires.0 c.first_from.ensures c.first_from-2.ensures)
