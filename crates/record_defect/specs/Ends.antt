-- Serves contracts and proofs. Where the fields of a record end, whatever their length, by a reader of what ends with the record.
use Rattle.std.specs.Prelude.{cond, true, List, ℕ, ◌+◌, ◌*◌, eqb, Option, Some, None, option_and_then}
use Rattle.registry.specs.Tags.{head_length, width_of}
use Rattle.fields.specs.Positions.{field_at, end_by}

-- where the field of a tag at a position ends, if it stands there
abbrev pub end_at : List ℕ → ℕ → ℕ → ℕ → Option ℕ
end_at s end tag at = end_by (λ n. true) tag (field_at s at end)

-- fields 21 and 22 from a position on
abbrev pub texts_end : List ℕ → ℕ → ℕ → Option ℕ
texts_end s end at = option_and_then (λ middle. end_at s end 0x22 middle) (end_at s end 0x21 at)

-- field 23 of one byte at a position
abbrev pub status_end : List ℕ → ℕ → ℕ → Option ℕ
status_end s end at = option_and_then (λ last. cond (eqb last (at + 4)) (Some last) None) (end_at s end 0x23 at)

-- fields 20 to 23 of a block
abbrev pub block_end : List ℕ → ℕ → ℕ → ℕ → Option ℕ
block_end s tag start end =
    option_and_then
    (λ at. cond (eqb at (start + head_length + 2 * width_of tag)) (option_and_then (λ to. status_end s end to) (texts_end s end at)) None)
    (end_at s end 0x20 start)
