-- `letter_or_digit`: the rule, term by term.
use mathlib.Core.Path.{refl}
use Rattle.hosts.specs.HostScan.{letter_or_digit}
use Rattle.hosts.proofs.letter_or_digit.Goals as goal

pub returns : goal.returns
unfolding letter_or_digit
returns c = refl
