-- Serves contracts and proofs. What the type `Records` lists.
use Rattle.std.specs.Prelude.{◌≡◌, List, ℕ, take, get_or}
use Rattle.rows.specs.Entry.{Entry}
use Rattle.merged.specs.Held.{bytes_at, entries_at, row_at, image_at, Merged}
use Rattle.merged.specs.declared.Records.{Records}

-- the starts, in the order of the keys
abbrev pub starts_in : Records → List ℕ
starts_in m = take m.count m.starts

-- the bytes at a start, and at the start with a number
abbrev pub bytes_in : Records → ℕ → List ℕ
bytes_in m start = bytes_at m.image.now m.changes.now start

abbrev pub bytes_of_number : Records → ℕ → List ℕ
bytes_of_number m i = bytes_in m (get_or m.starts i 0)

-- the records; their bytes; an image of them
abbrev pub listed : Records → List Entry
listed m = entries_at m.image.now m.changes.now (starts_in m)

abbrev pub row_in : Records → List ℕ
row_in m = row_at m.image.now m.changes.now (starts_in m)

abbrev pub image_in : Records → List ℕ
image_in m = image_at m.image.now m.changes.now (starts_in m)

-- its starts are those of whole records without defects 3 to 5, in the order of the image
abbrev pub MergedIn : Records → Type 0
MergedIn m = Merged m.image.now m.changes.now m.starts m.count

-- those of one image and one change file
pub record SameFiles (before after : Records) : Type 0 where
  pub image : after.image ≡ before.image
  pub changes : after.changes ≡ before.changes
