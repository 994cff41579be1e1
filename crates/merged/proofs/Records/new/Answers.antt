-- What the image's index says (Started.antt).
use Rattle.merged.proofs.Started.{index_merged}
use Rattle.merged.proofs.Records.new.Goals as goal

pub returns-clause-merged : goal.returns-clause-merged
returns-clause-merged c = λ x. index_merged c.args.changes.now _ x c.note_starts.ensures.first c.note_starts.ensures.full
