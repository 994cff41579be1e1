use mathlib.Core.Path.{sym, subst}
use Rattle.merged.specs.Held.{Recorded}
use Rattle.merged.proofs.Numbered.{recorded_at}
use Rattle.merged.proofs.Records.record.Goals as goal

pub returns-clause-whole : goal.returns-clause-whole
returns-clause-whole c = subst Recorded (sym c.record_at.ensures) (recorded_at c.requires.1 c.args.i c.requires.0)
