-- `label_ok`: the rule, term by term.
use mathlib.Core.Path.{refl}
use Rattle.hosts.proofs.label_ok.Goals as goal

pub returns : goal.returns
returns c = refl
