-- Serves contracts and proofs. The field at a position of the image, and what a reader passes.
use Rattle.std.specs.Prelude.{Bool, cond, ◌&&◌, List, ℕ, zero, suc, ◌+◌, ◌-◌, ◌*◌, ◌≤◌, ◌≡◌, leb, ltb, eqb, get_or, Option, Some, None}
use Rattle.std.proofs.Math.Seq.{slice}
use Rattle.registry.specs.Tags.{head_length}
use Rattle.fields.specs.Field.{Head, field, short}
use Rattle.fields.specs.declared.Field.{Field}

-- the length that a field at a position states
abbrev pub length_at : List ℕ → ℕ → ℕ
length_at s at = get_or s (at + 1) 0 * 256 + get_or s (at + 2) 0

abbrev pub field_of : ℕ → ℕ → ℕ → Field
field_of tag start end = record { tag = tag; start = start; end = end }

-- the field at a position of what ends at `end`
unfoldable pub field_at : List ℕ → ℕ → ℕ → Option Field
field_at s at end =
    cond (ltb (end - at) 3) None
    (cond (ltb (end - (at + head_length)) (length_at s at)) None (Some (field_of (get_or s at 0) (at + head_length) (at + head_length + length_at s at))))

-- where a field ends that has the tag and a length that fits
unfoldable pub end_by : (ℕ → Bool) → ℕ → Option Field → Option ℕ
end_by fits tag None = None
end_by fits tag (Some f) = cond (eqb f.tag tag && fits (f.end - f.start)) (Some f.end) None

-- of low to high bytes
abbrev pub end_between : ℕ → ℕ → ℕ → Option Field → Option ℕ
end_between low high tag f = end_by (λ n. leb low n && leb n high) tag f

-- the bytes that such an answer stands for
abbrev pub head_at : List ℕ → ℕ → Option Field → Head
head_at s end None = short
head_at s end (Some f) = field f.tag (slice f.start f.end s) (slice f.end end s)

-- a field's contents start after its tag and length, and never pass the end of the enclosing field
pub record FieldInside (at end start stop : ℕ) : Type 0 where
  pub after : at + head_length ≡ start
  pub forward : start ≤ stop
  pub within : stop ≤ end

-- where the next field starts; a reader that finds no whole field stays
abbrev pub behind : Option Field → ℕ → ℕ
behind (Some f) at = f.end
behind None at = at

-- the position n fields on, in what ends at `end`
unfoldable pub passed : List ℕ → ℕ → ℕ → ℕ → ℕ
passed s zero at end = at
passed s (suc n) at end = passed s n (behind (field_at s at end) at) end

-- the field there
abbrev pub field_after : List ℕ → ℕ → ℕ → ℕ → Option Field
field_after s n at end = field_at s (passed s n at end) end
