-- Serves contracts and proofs. A change of a file as the code reads it.
use Rattle.std.specs.Prelude.{◌≡◌, Bool, true, cond, List, ℕ, ◌+◌, ◌≤◌, ◌<◌, length, get_or, drop, Option, Some, None}
use Rattle.std.proofs.Math.Seq.{slice}
use Rattle.fields.specs.Field.{Head, field, short, head_of}
use Rattle.changes.specs.Change as Changes
use Rattle.changes.specs.Change.{keyed, add_of, remove_of, change_of}
use Rattle.merged.specs.Held.{entry_of, Recorded}
use Rattle.by_key.specs.Key.{Key}
use Rattle.one_change.specs.declared.Change.{Change}
use Rattle.one_change.specs.declared.Change.TheVariants.{Add, Remove}

-- the contents of a field 30, and of a field 31
pub record Addition (s : List ℕ) (ok : Bool) : Type 0 where
  pub is : add_of s (head_of s) ≡ cond ok (Changes.add (entry_of s)) Changes.malformed
  pub whole : ok ≡ true → Recorded s

pub record Removal (s : List ℕ) (ok : Bool) : Type 0 where
  pub is : remove_of s ≡ cond ok (Changes.remove (keyed (get_or s 0 0) (drop 1 s))) Changes.malformed
  pub some-tag : ok ≡ true → 0 < length s
  pub key : ok ≡ true → Key (get_or s 0 0) (drop 1 s)

-- the change at the start of a row
abbrev pub change_in : Head → Changes.Change
change_in (field tag contents rest) = change_of tag contents
change_in short = Changes.malformed

-- a change stands at a position of the file: its contents go from start up to end
pub record Stated (s : List ℕ) (at start end : ℕ) (change : Changes.Change) : Type 0 where
  pub tag : ℕ
  pub head : head_of (drop at s) ≡ field tag (slice start end s) (drop end s)
  pub is : change_of tag (slice start end s) ≡ change
  pub after : at + 3 ≡ start
  pub forward : start ≤ end
  pub within : end ≤ length s

-- the changes that these contents are
abbrev pub adding : List ℕ → ℕ → ℕ → Changes.Change
adding s start end = Changes.add (entry_of (slice start end s))

abbrev pub removing : List ℕ → ℕ → ℕ → Changes.Change
removing s start end = Changes.remove (keyed (get_or s start 0) (slice (start + 1) end s))

abbrev pub ChangeIs : List ℕ → ℕ → Change → Type 0
ChangeIs s at (Add start end) = Stated s at start end (adding s start end) × Recorded (slice start end s)
ChangeIs s at (Remove start end) =
    Stated s at start end (removing s start end) × (start < end) × Key (get_or s start 0) (slice (start + 1) end s)

abbrev pub ChangeAt : List ℕ → ℕ → Option Change → Type 0
ChangeAt s at (Some change) = ChangeIs s at change
ChangeAt s at None = change_in (head_of (drop at s)) ≡ Changes.malformed
