-- One record, by the verdict on all of it (Changes.antt).
use Rattle.one_change.proofs.Changes.{add_judged_one}
use Rattle.one_change.proofs.good_record.Goals as goal

pub returns : goal.returns
returns c =
    let w = c.index_from.ensures in
    record { judged = rw c.eq.ensures (add_judged_one _ _ _ w.verdict); full = w.full }
