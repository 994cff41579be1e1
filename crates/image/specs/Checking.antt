-- Serves contracts and proofs. What the code of the check answers, in positions of the image.
use Rattle.std.specs.Prelude.{◌≡◌, Some, Result, Ok, Err, List, ℕ, length}
use Rattle.std.proofs.Math.Seq.{slice}
use Rattle.registry.specs.declared.Defect.{Defect}
use Rattle.registry.specs.declared.Flaw.{Flaw}
use Rattle.registry.specs.Defects.{defect_number}
use Rattle.fields.specs.Field.{head_of}
use Rattle.fields.specs.Positions.{field_at, field_of}
use Rattle.records.specs.Record.{Record}
use Rattle.records.specs.Layout.{Readable}
use Rattle.records.specs.declared.Layout.{Layout}
use Rattle.image.specs.Image.{Image, sound, defective, stopped, next_of}

-- the verdict on an image: how many records it has, or the number of its defect and its place
abbrev pub verdict_of : Image → Result ℕ (ℕ × ℕ)
verdict_of (sound records) = Ok (length records)
verdict_of (defective defect place) = Err (defect, place)

-- the code's verdict in these numbers
abbrev pub numbers_in : Result ℕ Flaw → Result ℕ (ℕ × ℕ)
numbers_in (Ok count) = Ok count
numbers_in (Err flaw) = Err (defect_number flaw.defect, flaw.place)

-- A record at a position, judged by itself

-- a field stands there, and it is a record that can be read
pub record TakenAt (s : List ℕ) (at : ℕ) (l : Layout) : Type 0 where
  pub readable : Readable s l
  pub stands : field_at s at (length s) ≡ Some (field_of l.tag l.start l.end)

-- refused whatever the earlier records are
abbrev pub ReadAt : List ℕ → ℕ → Result Layout Defect → Type 0
ReadAt s at (Err defect) = (earlier : List Record) → next_of earlier (head_of (slice at (length s) s)) ≡ stopped (defect_number defect)
ReadAt s at (Ok l) = TakenAt s at l
