-- What is found is reported.
use Rattle.output.proofs.Reports.{same-reported}
use Rattle.relations.proofs.list_around.Goals as goal

pub returns : goal.returns
returns c = same-reported c.find_around.ensures c.report_found.ensures
