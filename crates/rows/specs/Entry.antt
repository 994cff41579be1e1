-- The records of an image with the bytes that each is written as.
use Rattle.std.specs.Prelude.{List, [], ◌∷◌, ◌++◌, map, ℕ, take, drop}
use Rattle.fields.specs.Field.{size_of}
use Rattle.records.specs.Record.{Record}

-- a record, and its bytes: tag, length and contents
pub record Entry : Type 0 where
  pub parsed : Record
  pub bytes : List ℕ

abbrev pub entry : Record → List ℕ → Entry
entry r bytes = record { parsed = r; bytes = bytes }

-- the records of a row of fields, each with its bytes
unfoldable pub entries_of : List Record → List ℕ → List Entry
entries_of [] s = []
entries_of (r ∷ records) s = entry r (take (size_of s) s) ∷ entries_of records (drop (size_of s) s)

abbrev pub parsed_of : List Entry → List Record
parsed_of es = map (λ (e : Entry). e.parsed) es

-- their bytes one after another
unfoldable pub row_of : List Entry → List ℕ
row_of [] = []
row_of (e ∷ es) = e.bytes ++ row_of es
