-- The handle, the name or the range of a record by its number (S2.2, S2.7).
use Rattle.std.specs.Prelude.{Bool, true, false, List, [], ◌∷◌, ℕ, ◌+◌, ◌↔◌, ◌≡◌, take, drop}
use Rattle.std.specs.Borrow.{Bor}
use Rattle.registry.specs.Tags.{is_block}
use Rattle.octets.specs.Lists.{any}
use Rattle.records.specs.Record.{Record}
use Rattle.image.specs.Image.{Image, sound, defective, image_of}
use Rattle.registry.specs.declared.Part.{Part}
use Rattle.registry.specs.declared.Part.TheVariants.{Range, Handle, Name}

-- the records of an image, none if it is defective
abbrev pub records_of : Image → List Record
records_of (sound records) = records
records_of (defective defect place) = []

abbrev pub contents_of : Part → Record → List ℕ
contents_of Range r = r.range
contents_of Handle r = r.handle
contents_of Name r = r.name

abbrev pub contents_of_first : Part → List Record → List ℕ
contents_of_first which [] = []
contents_of_first which (r ∷ records) = contents_of which r

-- empty if there is no such record
abbrev pub excerpt_of : Image → ℕ → Part → List ℕ
excerpt_of image n which = contents_of_first which (drop n (records_of image))

-- only a block has a range
abbrev pub has : Part → Record → Bool
has Range r = is_block r.tag
has Handle r = true
has Name r = true

-- This part is not empty exactly if there is such a record and it has such a part; a defective image has no records.
-- Proved in proofs/EmptyPart.antt.
abbrev pub EmptyPart : Type 0
EmptyPart = (image : List ℕ) (n : ℕ) (which : Part) → (excerpt_of (image_of image) n which ≡ []) ↔ (any (has which) (take 1 (drop n (records_of (image_of image)))) ≡ false)

-- S2.2: a part of a slice, not a copy: it has these bytes, lies in the same memory, and starts so far behind the start of the whole.
pub record PartFrom (whole : Bor (List ℕ)) (start : ℕ) (bytes : List ℕ) (part : Bor (List ℕ)) : Type 0 where
  pub same : part.now ≡ bytes
  pub memory : part.ref_ptr.0 ≡ whole.ref_ptr.0
  pub offset : part.ref_ptr.1 ≡ whole.ref_ptr.1 + start
