-- Serves contracts and proofs. Records in the order of an image: each follows all before it.
use Rattle.std.specs.Prelude.{◌≡◌, true, List, [], ◌∷◌}
use Rattle.records.specs.Record.{Record, follows}

pub data AllAfter (p : Record) : List Record → Type 0 where
  after_nil : AllAfter p []
  after-cons : {r : Record} {records : List Record} → follows p r ≡ true → AllAfter p records → AllAfter p (r ∷ records)

pub data Ordered : List Record → Type 0 where
  ordered_nil : Ordered []
  ordered-cons : {r : Record} {records : List Record} → AllAfter r records → Ordered records → Ordered (r ∷ records)

-- they may come after the earlier ones, the latest first
abbrev pub Continues : List Record → List Record → Type 0
Continues [] records = Unit {0}
Continues (p ∷ earlier) records = AllAfter p records
