-- Serves contracts and proofs. The final list, and a record of it by its number, for a program that says which one is at fault.
use Rattle.std.specs.Prelude.{◌≡◌, cond, List, [], ◌∷◌, ℕ, ◌≤◌, leb, length, drop, Result, Ok, Err}
use Rattle.records.specs.Record.{Record}
use Rattle.image.specs.Image.{Image, sound, defective, image_of}
use Rattle.image.specs.Part.{records_of}
use Rattle.rows.specs.Entry.{Entry, entries_of}
use Rattle.changes.specs.Limits.{most_changes}
use Rattle.changes.specs.Change.{Changed, done, refused_at, changes_of}
use Rattle.merged.specs.Listed.{listed, MergedIn}
use Rattle.merged.specs.declared.Records.{Records}

-- the changes of a file applied to the records of an image
abbrev pub changed_in : List ℕ → List ℕ → List Record → Changed
changed_in image changes records = cond (leb (length changes) most_changes) (changes_of (entries_of records (drop 4 image)) changes) (refused_at 0)

-- as the code tells it, by the records afterwards
abbrev pub ChangedTo : List ℕ → List ℕ → Records → Result Unit ℕ → Type 0
ChangedTo image changes after (Ok _) = (changed_in image changes (records_of (image_of image)) ≡ done (listed after)) × MergedIn after × (length changes ≤ most_changes)
ChangedTo image changes after (Err offset) = (changed_in image changes (records_of (image_of image)) ≡ refused_at offset) × (offset ≤ most_changes)

abbrev pub bytes_of_first : List Entry → List ℕ
bytes_of_first [] = []
bytes_of_first (e ∷ es) = e.bytes

abbrev pub record_after : Changed → ℕ → List ℕ
record_after (done es) n = bytes_of_first (drop n es)
record_after (refused_at offset) n = []

abbrev pub record_in : List ℕ → List ℕ → ℕ → Image → List ℕ
record_in image changes n (defective defect place) = []
record_in image changes n (sound records) = record_after (changed_in image changes records) n

-- its bytes; none where there is no such record, or a change is at fault, or the image is defective
unfoldable pub final_record : List ℕ → List ℕ → ℕ → List ℕ
final_record image changes n = record_in image changes n (image_of image)
