-- Serves contracts and proofs. Where a key stands among records in order: what a search by halves finds. A change is made at this place (proofs/Ranks.antt).
use Rattle.std.specs.Prelude.{Bool, false, cond, List, [], ◌∷◌, ℕ, suc}
use Rattle.records.specs.Record.{Record, follows}
use Rattle.rows.specs.Entry.{Entry}
use Rattle.changes.specs.Change.{same_key}

-- how many records come before it
unfoldable pub rank_of : Record → List Entry → ℕ
rank_of r [] = 0
rank_of r (x ∷ es) = cond (follows x.parsed r) (suc (rank_of r es)) 0

-- the first of these records has this key
abbrev pub starts_with : Record → List Entry → Bool
starts_with r [] = false
starts_with r (x ∷ es) = same_key x.parsed r
