-- Serves contracts and proofs. The records that an index of starts holds: each is a position of the image or, from 262,144 on, of the change file.
use Rattle.std.specs.Prelude.{◌≡◌, cond, List, [], ◌++◌, map, ℕ, ◌-◌, ◌≤◌, ltb, length, take, Option, Some, None}
use Rattle.std.proofs.Math.Seq.{slice}
use Rattle.registry.specs.Limits.{most_image}
use Rattle.fields.specs.Field.{Head, field, short, head_of}
use Rattle.fields.specs.Positions.{field_at}
use Rattle.fields.specs.declared.Field.{Field}
use Rattle.records.specs.Record.{Record}
use Rattle.records.specs.Judge.{Judged, bad, good, judge}
use Rattle.rows.specs.Entry.{Entry, entry, parsed_of, row_of}
use Rattle.rows.specs.Good.{GoodEntry, AllGood}
use Rattle.rows.specs.Ordered.{Ordered}
use Rattle.changes.specs.Limits.{most_entries}
use Rattle.changes.specs.Change.{keyed}

-- the bytes of the field at a position; none where no whole field stands
abbrev pub bytes_from : List ℕ → ℕ → Option Field → List ℕ
bytes_from s at (Some f) = slice at f.end s
bytes_from s at None = []

abbrev pub field_bytes : List ℕ → ℕ → List ℕ
field_bytes s at = bytes_from s at (field_at s at (length s))

-- the bytes at a start
unfoldable pub bytes_at : List ℕ → List ℕ → ℕ → List ℕ
bytes_at image changes start = cond (ltb start most_image) (field_bytes image start) (field_bytes changes (start - most_image))

-- the record of these bytes, with them
abbrev pub record_or : Judged → Record
record_or (good r) = r
record_or (bad defect) = keyed 0 []

abbrev pub record_in : Head → Record
record_in (field tag contents rest) = record_or (judge [] tag contents)
record_in short = keyed 0 []

unfoldable pub parsed_from : List ℕ → Record
parsed_from bytes = record_in (head_of bytes)

abbrev pub entry_of : List ℕ → Entry
entry_of bytes = entry (parsed_from bytes) bytes

-- those at the starts of an index
abbrev pub entries_at : List ℕ → List ℕ → List ℕ → List Entry
entries_at image changes starts = map (λ (p : ℕ). entry_of (bytes_at image changes p)) starts

-- their bytes, and those of an image with them
abbrev pub row_at : List ℕ → List ℕ → List ℕ → List ℕ
row_at image changes starts = row_of (entries_at image changes starts)

abbrev pub image_at : List ℕ → List ℕ → List ℕ → List ℕ
image_at image changes starts = take 4 image ++ row_at image changes starts

-- one whole record without defects 3 to 5
abbrev pub Recorded : List ℕ → Type 0
Recorded bytes = GoodEntry (entry_of bytes)

-- what the starts of an index hold: such records, in the order of the image
pub record Held (image changes starts : List ℕ) : Type 0 where
  pub good : AllGood (entries_at image changes starts)
  pub ordered : Ordered (parsed_of (entries_at image changes starts))

-- an index, whose first n places hold the starts of such records
pub record Merged (image changes index : List ℕ) (n : ℕ) : Type 0 where
  pub full : length index ≡ most_entries
  pub few : n ≤ most_entries
  pub held : Held image changes (take n index)

-- Serving the functions that change the index

-- an index whose first n places are these starts
pub record Starting (index : List ℕ) (n : ℕ) (starts : List ℕ) : Type 0 where
  pub first : take n index ≡ starts
  pub full : length index ≡ most_entries
