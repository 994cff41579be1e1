-- Serves contracts and proofs. Records that stand one after another in the image.
use Rattle.std.specs.Prelude.{◌≡◌, List, ◌++◌, ℕ, ◌≤◌, ◌<◌, length, get_or, drop}
use Rattle.std.proofs.Math.Seq.{slice}
use Rattle.output.specs.Writing.{Written}
use Rattle.merged.specs.Held.{row_at}
use Rattle.merged.specs.Listed.{starts_in}
use Rattle.merged.specs.declared.Records.{Records}
use Rattle.stretches.specs.declared.Put.{Put}
use Rattle.stretches.specs.declared.Stretch.{Stretch}

-- those from the i-th of these starts on, up to another: their bytes, which lie in the image, and then the records that are left
pub record Stretched (image changes starts : List ℕ) (i from end until : ℕ) : Type 0 where
  pub some : i < until
  pub few : until ≤ length starts
  pub forward : from ≤ end
  pub within : end ≤ length image
  pub joined : row_at image changes (drop i starts) ≡ slice from end image ++ row_at image changes (drop until starts)

-- those of number i and more, in one stretch
abbrev pub StretchFrom : Records → ℕ → Stretch → Type 0
StretchFrom records i r = Stretched records.image.now records.changes.now (starts_in records) i (get_or records.starts i 0) r.end r.until

-- the bytes of the records from a number on
abbrev pub row_from : Records → ℕ → List ℕ
row_from records i = row_at records.image.now records.changes.now (drop i (starts_in records))

-- some of these records, written to the start of a buffer
pub record PutNext (records : Records) (i : ℕ) (before after : List ℕ) (r : Put) : Type 0 where
  pub some : i < r.until
  pub few : r.until ≤ records.count
  pub bytes : List ℕ
  pub joined : row_from records i ≡ bytes ++ row_from records r.until
  pub written : Written bytes before after r.size
