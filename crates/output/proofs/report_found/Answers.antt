-- One record number, or none.
use Rattle.output.proofs.Replies.{nothing-reported}
use Rattle.output.proofs.report_found.Goals as goal

pub returns-in-None : goal.returns-in-None
returns-in-None c = rw c.in-None.is (nothing-reported c.args.list.now)
