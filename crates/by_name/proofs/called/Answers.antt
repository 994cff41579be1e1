-- What was sought is reported.
use Rattle.output.proofs.Reports.{same-reported}
use Rattle.by_name.proofs.called.Goals as goal

pub returns : goal.returns
returns c = same-reported c.seek-found.ensures.answer c.report_found.ensures
