-- The head of each record is in the image (Standing.antt).
use native.Mathlib.Omega.{arith}
use Rattle.image.proofs.Soundness.{few-records, few_bytes}
use Rattle.entries.proofs.Standing.{start-inside}
use Rattle.entries.proofs.SoundImage.start_of.Goals as goal

pub bounds-self-number : goal.bounds-self-number
bounds-self-number c = omega (arith, few-records _ _ c.args.self.indexed.sound, c.requires)

pub returns-clause-inside : goal.returns-clause-inside
returns-clause-inside c = start-inside _ _ _ c.args.self.indexed _ c.requires

pub returns-clause-fits : goal.returns-clause-fits
returns-clause-fits c = few_bytes _ _ c.args.self.indexed.sound
