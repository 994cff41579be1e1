-- `host_ends`: two runs that overlap or touch test every pair.
use borrow.Author.Rules.{rules}
use Rattle.hosts.proofs.Hosts as hosts
use Rattle.hosts.proofs.host_ends.Goals as goal

pub returns : goal.returns
returns c = rw (c.host_run-first.ensures, c.host_run-last.ensures) (hosts.host-ends _ _ (search rules) (search rules))
