-- Serves contracts and proofs. What the code answers about one record, in positions of the image.
use Rattle.std.specs.Prelude.{cond, ◌≡◌, List, [], ◌∷◌, ℕ, ◌-◌, ◌*◌, ◌≤◌, ◌<◌, eqb, Option, Some, None}
use Rattle.std.proofs.Math.Seq.{slice}
use Rattle.registry.specs.Tags.{is_block, width_of, as_block, ipv4_network}
use Rattle.fields.specs.Positions.{field_after}
use Rattle.fields.specs.declared.Field.{Field}
use Rattle.records.specs.Record.{Record}
use Rattle.records.specs.declared.Span.{Span}

-- where the contents of a record's fields 20 to 23 are; an absent field's are empty
pub record Parts : Type 0 where
  pub range : Span
  pub handle : Span
  pub name : Span
  pub status : Span

abbrev pub bytes_of : List ℕ → Span → List ℕ
bytes_of s x = slice x.start x.end s

-- the record whose parts lie there
abbrev pub record_at : List ℕ → ℕ → Parts → Record
record_at s tag p =
    record { tag = tag; range = bytes_of s p.range; handle = bytes_of s p.handle; name = bytes_of s p.name; status = bytes_of s p.status }

pub record Inside (end : ℕ) (x : Span) : Type 0 where
  pub forward : x.start ≤ x.end
  pub within : x.end ≤ end

-- the parts of a record of this tag, all before end
pub record Placed (tag end : ℕ) (p : Parts) : Type 0 where
  pub known : ipv4_network ≤ tag
  pub range : Inside end p.range
  pub handle : Inside end p.handle
  pub name : Inside end p.name
  pub status : Inside end p.status
  pub sizes : tag ≤ as_block → (p.range.end - p.range.start ≡ 2 * width_of tag) × (p.status.end - p.status.start ≡ 1)
  pub absent : as_block < tag → (p.range.start ≡ p.range.end) × (p.status.start ≡ p.status.end)

-- The range, the handle and the name of a record by the lengths alone: a block starts with field 20, another record with field 21, and
-- field 22 comes after that

-- the contents of a field
abbrev pub span_from : Option Field → Span
span_from (Some f) = record { start = f.start; end = f.end }
span_from None = record { start = 0; end = 0 }

-- the contents of the field n fields on from a position, in what ends at `end`
abbrev pub inner_span : List ℕ → ℕ → ℕ → ℕ → Span
inner_span s at end n = span_from (field_after s n at end)

-- in the record of a tag whose contents go from start up to end
unfoldable pub range_span : List ℕ → ℕ → ℕ → ℕ → Span
range_span s tag start end = cond (is_block tag) (inner_span s start end 0) (record { start = 0; end = 0 })

unfoldable pub handle_span : List ℕ → ℕ → ℕ → ℕ → Span
handle_span s tag start end = inner_span s start end (cond (is_block tag) 1 0)

unfoldable pub name_span : List ℕ → ℕ → ℕ → ℕ → Span
name_span s tag start end = inner_span s start end (cond (is_block tag) 2 1)

-- the record before, if there is one: `before` is its tag, or 0
abbrev pub previous_of : List ℕ → ℕ → Parts → List Record
previous_of s before p = cond (eqb before 0) [] (record_at s before p ∷ [])
