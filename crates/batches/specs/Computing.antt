-- Opens the definitions of this crate and of those below it, for theorems that hold by computing: `unfolding computing`.
use Rattle.calls.specs.Computing as Calls
use Rattle.batches.specs.Batch.{paths_of, lines, answers_in, of_answers, batch_in, batch_of}

unfoldable pub computing : Unit {0}
unfolding Calls.computing paths_of lines answers_in of_answers batch_in batch_of
computing = tt
