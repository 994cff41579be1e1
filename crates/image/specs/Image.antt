-- The image: its records, or its first defect (S4, S5).
use Rattle.std.specs.Prelude.{Bool, cond, ◌&&◌, List, [], ◌∷◌, reverse, ℕ, zero, suc, leb, eqb, length, drop, get_or}
use Rattle.registry.specs.Limits.{most_image, most_records}
use Rattle.fields.specs.Field.{Head, field, short, head_of}
use Rattle.records.specs.Record.{Record}
use Rattle.records.specs.Judge.{Judged, bad, good, judge}

-- the first record of what is left of the image, with what follows it, or its defect
pub data Next : Type 0 where
  stopped : ℕ → Next
  taken : Record → List ℕ → Next

abbrev pub after_judged : Judged → List ℕ → Next
after_judged (bad defect) rest = stopped defect
after_judged (good r) rest = taken r rest

-- S5.1: a record cut short has defect 3
abbrev pub next_of : List Record → Head → Next
next_of earlier short = stopped 3
next_of earlier (field tag contents rest) = after_judged (judge earlier tag contents) rest

-- the records of an image, or its defect and the number of the record that has it
pub data Image : Type 0 where
  sound : List Record → Image
  defective : (defect place : ℕ) → Image

abbrev pub after_next : List Record → Next → (Record → List ℕ → Image) → Image
after_next earlier (stopped defect) onward = defective defect (length earlier)
after_next earlier (taken r rest) onward = onward r rest

-- What is left of the image, after the earlier records, the latest first; at most n records may still come.
unfoldable pub image_from : ℕ → List Record → List ℕ → Image
image_from zero earlier [] = sound (reverse earlier)
image_from zero earlier (b ∷ bs) = defective 3 (length earlier)
image_from (suc n) earlier [] = sound (reverse earlier)
image_from (suc n) earlier (b ∷ bs) = after_next earlier (next_of earlier (head_of (b ∷ bs))) λ r rest. image_from n (r ∷ earlier) rest

-- S4.2: it starts with the bytes 01 00 01 01 (edition 1).
unfoldable pub starts_right : List ℕ → Bool
starts_right s = leb 4 (length s) && eqb (get_or s 0 0) 1 && eqb (get_or s 1 0) 0 && eqb (get_or s 2 0) 1 && eqb (get_or s 3 0) 1

-- S4.1: at most 262,144 bytes and 4,096 records. S5.2: defects 1 and 2 come before any record's, with place 0.
unfoldable pub image_of : List ℕ → Image
image_of s =
    cond (leb (length s) most_image) (cond (starts_right s) (image_from most_records [] (drop 4 s)) (defective 2 0)) (defective 1 0)
