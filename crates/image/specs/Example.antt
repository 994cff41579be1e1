-- The image of S13.3, and damaged copies of it.
use Rattle.std.specs.Prelude.{◌≡◌, refl, List, [], ◌∷◌, ◌++◌, map, ℕ, set, take, drop}
use Rattle.records.specs.Record.{Record}
use Rattle.image.specs.Image.{sound, defective, image_of}
use Rattle.image.specs.Entries.{span_of}
use Rattle.image.specs.Computing.{computing}
use Rattle.registry.specs.declared.Part.TheVariants.{Range, Name}

-- one AS block, 12 to 15, handle A, name B, active
abbrev pub example : List ℕ
example =
    0x01 ∷ 0x00 ∷ 0x01 ∷ 0x01 ∷ 0x12 ∷ 0x00 ∷ 0x17 ∷ 0x20 ∷ 0x00 ∷ 0x08 ∷ 0x00 ∷ 0x00 ∷ 0x00 ∷ 0x0C ∷ 0x00 ∷ 0x00 ∷ 0x00 ∷ 0x0F
    ∷ 0x21 ∷ 0x00 ∷ 0x01 ∷ 0x41 ∷ 0x22 ∷ 0x00 ∷ 0x01 ∷ 0x42 ∷ 0x23 ∷ 0x00 ∷ 0x01 ∷ 0x01 ∷ []

abbrev pub block : Record
block =
    record { tag = 0x12; range = 0 ∷ 0 ∷ 0 ∷ 12 ∷ 0 ∷ 0 ∷ 0 ∷ 15 ∷ []; handle = 0x41 ∷ []; name = 0x42 ∷ []; status = 1 ∷ [] }

accepted : image_of example ≡ sound (block ∷ [])
unfolding computing
accepted = refl

-- its range is the eight bytes at 10, its name the byte at 25, and there is no record 1
spans : (span_of example 0 Range ≡ record { start = 10; end = 18 }) × (span_of example 0 Name ≡ record { start = 25; end = 26 }) × (span_of example 1 Name ≡ record { start = 0; end = 0 })
unfolding computing
spans = (refl, refl, refl)

-- a second copy of the record, with another byte at a place
abbrev twice : ℕ → ℕ → List ℕ
twice i b = example ++ set (drop 4 example) i b

abbrev damaged : List (List ℕ)
damaged =
    set example 3 2 ∷ take 3 example ∷ take 29 example ∷ set example 4 0x16 ∷ set example 18 0x22 ∷ set example 6 0x16 ∷ set example 9 7
    ∷ set example 21 0x2A ∷ set example 17 11 ∷ set example 29 2 ∷ twice 0 0x12 ∷ twice 0 0x11 ∷ twice 9 11 ∷ twice 13 16 ∷ set (twice 9 13) 43 16 ∷ []

refused :
    map image_of damaged
    ≡ defective 2 0 ∷ defective 2 0 ∷ defective 3 0 ∷ defective 3 0 ∷ defective 4 0 ∷ defective 4 0 ∷ defective 4 0
    ∷ defective 5 0 ∷ defective 5 0 ∷ defective 5 0 ∷ defective 6 1 ∷ defective 4 1 ∷ defective 6 1 ∷ defective 6 1 ∷ defective 7 1 ∷ []
unfolding computing
refused = refl
