-- `may_follow`: the rule, term by term.
use mathlib.Core.Path.{refl}
use Rattle.hosts.specs.HostScan.{letter_or_digit}
use Rattle.hosts.specs.Pairs.{may_follow}
use Rattle.hosts.proofs.may_follow.Goals as goal

pub returns : goal.returns
unfolding may_follow letter_or_digit
returns c = refl
