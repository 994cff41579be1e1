-- A change file folded into an image (S2.8), and what is shown of it (S14.8).
use Rattle.std.specs.Prelude.{true, cond, ◌≡◌, List, [], ◌∷◌, ◌++◌, ℕ, ◌≤◌, leb, length, take, drop}
use Rattle.octets.specs.Lists.{contains}
use Rattle.records.specs.Record.{Record}
use Rattle.image.specs.Image.{Image, sound, defective, image_of}
use Rattle.rows.specs.Entry.{Entry, entries_of, parsed_of, row_of}
use Rattle.changes.specs.Limits.{most_changes}
use Rattle.changes.specs.Change.{Changed, done, refused_at, changes_of}

-- What the call answers, and the bytes that it writes: none unless reason is 0. Count is their number, or under reason 9 the number needed.
pub record Folding : Type 0 where
  pub reason : ℕ
  pub count : ℕ
  pub defect : ℕ
  pub place : ℕ
  pub offset : ℕ
  pub written : List ℕ

-- reason 2 for the image, 12 for the final one
abbrev pub bad_image : ℕ → ℕ → ℕ → Folding
bad_image reason defect place = record { reason = reason; count = 0; defect = defect; place = place; offset = 0; written = [] }

-- reason 11
abbrev pub bad_change : ℕ → Folding
bad_change offset = record { reason = 11; count = 0; defect = 0; place = 0; offset = offset; written = [] }

-- reason 9
abbrev pub no_room : ℕ → Folding
no_room needed = record { reason = 9; count = needed; defect = 0; place = 0; offset = 0; written = [] }

abbrev pub fits : List ℕ → Folding
fits out = record { reason = 0; count = length out; defect = 0; place = 0; offset = 0; written = out }

-- the final image judged as a whole: overlaps and image limits are judged here only
abbrev pub finished : List ℕ → ℕ → Image → Folding
finished out room (defective defect place) = bad_image 12 defect place
finished out room (sound records) = cond (leb (length out) room) (fits out) (no_room (length out))

-- the image of the start and of these records
abbrev pub after_changes : List ℕ → ℕ → Changed → Folding
after_changes start room (refused_at offset) = bad_change offset
after_changes start room (done es) = finished (start ++ row_of es) room (image_of (start ++ row_of es))

abbrev pub after_image : List ℕ → List ℕ → ℕ → Image → Folding
after_image image changes room (defective defect place) = bad_image 2 defect place
after_image image changes room (sound records) =
    cond (leb (length changes) most_changes) (after_changes (take 4 image) room (changes_of (entries_of records (drop 4 image)) changes)) (bad_change 0)

unfoldable pub fold_of : List ℕ → List ℕ → ℕ → Folding
fold_of image changes room = after_image image changes room (image_of image)

-- What is proved of it (proofs/Folding.antt)

-- `out` is the image with the changes: it is accepted, and its records are those of the final list.
pub record Folds (image changes out : List ℕ) : Type 0 where
  pub before : List Record
  pub after : List Entry
  pub read : image_of image ≡ sound before
  pub changed : changes_of (entries_of before (drop 4 image)) changes ≡ done after
  pub bytes : out ≡ take 4 image ++ row_of after
  pub accepted : image_of out ≡ sound (parsed_of after)

abbrev pub Accepting : Type 0
Accepting = (image changes : List ℕ) (room : ℕ) → (fold_of image changes room).reason ≡ 0 → Folds image changes (fold_of image changes room).written

-- Folding two files in turn equals folding their joining, where both single folds are accepted (and so have room) and the joining is within 65,536 bytes.
abbrev pub Joining : Type 0
Joining = (image first second : List ℕ) (middle room : ℕ)
    → (fold_of image first middle).reason ≡ 0
    → (fold_of (fold_of image first middle).written second room).reason ≡ 0
    → length (first ++ second) ≤ most_changes
    → fold_of image (first ++ second) room ≡ fold_of (fold_of image first middle).written second room

-- an empty change file gives the image back
abbrev pub Unchanged : Type 0
Unchanged = (image : List ℕ) (room : ℕ) (records : List Record) → image_of image ≡ sound records → length image ≤ room → fold_of image [] room ≡ fits image

-- the defects that a final image can have: too long, too many records, an overlap
abbrev pub FinalDefects : Type 0
FinalDefects = (image changes : List ℕ) (room : ℕ) → (fold_of image changes room).reason ≡ 12 → contains (fold_of image changes room).defect (1 ∷ 3 ∷ 7 ∷ []) ≡ true
