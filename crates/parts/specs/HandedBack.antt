-- Serves contracts. A part of a record, handed back as a part of the image (S2.2, S2.7).
use Rattle.std.specs.Prelude.{ℕ, List}
use Rattle.std.specs.Borrow.{Bor}
use Rattle.registry.specs.declared.Part.{Part}
use Rattle.image.specs.Part.{PartFrom}
use Rattle.image.specs.Entries.{span_of}
use Rattle.calls.specs.Calls.{part_of}

-- it has the bytes of the part and lies in the image, where the part stands
abbrev pub HandedBack : Bor (List ℕ) → ℕ → Part → Bor (List ℕ) → Type 0
HandedBack image n which r = PartFrom image (span_of image.now n which).start (part_of image.now n which) r
