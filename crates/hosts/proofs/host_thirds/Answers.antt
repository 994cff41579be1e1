-- `host_thirds`: three runs of which the last two overlap or touch test every pair.
use borrow.Author.Rules.{rules}
use Rattle.hosts.proofs.Hosts as hosts
use Rattle.hosts.proofs.host_thirds.Goals as goal

pub returns : goal.returns
returns c = rw (c.host_run-first.ensures, c.host_run-second.ensures, c.host_run-last.ensures) (hosts.host_thirds _ _ (search rules) (search rules))
