-- What was collected is reported.
use Rattle.output.proofs.Reports.{in_hits, as_many, few-reported, reported}
use Rattle.relations.proofs.list_inside.Goals as goal

pub slice_bounds-hits-end : goal.slice_bounds-hits-end
slice_bounds-hits-end c = in_hits c.collect-n.ensures

pub slice_bounds-report-end : goal.slice_bounds-report-end
slice_bounds-report-end c = as_many c.collect-n.ensures

pub report-requires : goal.report-requires
report-requires c = few-reported c.collect-n.ensures

pub returns : goal.returns
returns c = reported c.collect-n.ensures c.report.ensures
