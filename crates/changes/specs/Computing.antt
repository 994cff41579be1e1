-- Opens the definitions of this crate and of those below it, for theorems that hold by computing: `unfolding computing`.
use Rattle.rows.specs.Computing as Entries
use Rattle.changes.specs.Change.{same_key, good_key, change_of, insert, changes_from, changes_of}
use Rattle.changes.specs.Fold.{fold_of}
use Rattle.changes.specs.Rank.{rank_of}

unfoldable pub computing : Unit {0}
unfolding Entries.computing same_key good_key change_of insert changes_from changes_of fold_of rank_of
computing = tt
