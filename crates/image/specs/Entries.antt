-- Serves contracts and proofs. The records of a sound image by their numbers: where each stands, and where its range, handle and name are,
-- which `SpanIsPart` ties to the calls that hand back a part (S2.2, S2.7).
use Rattle.std.specs.Prelude.{cond, ◌≡◌, List, ℕ, ltb, length, Option, Some, None}
use Rattle.std.proofs.Math.Seq.{slice}
use Rattle.fields.specs.Positions.{field_at, passed}
use Rattle.fields.specs.declared.Field.{Field}
use Rattle.records.specs.Positions.{range_span, handle_span, name_span, Inside}
use Rattle.records.specs.declared.Span.{Span}
use Rattle.image.specs.Image.{image_of}
use Rattle.image.specs.Part.{records_of, excerpt_of}
use Rattle.registry.specs.declared.Part.{Part}
use Rattle.registry.specs.declared.Part.TheVariants.{Range, Handle, Name}

-- where record i stands: i fields after the start of four bytes
unfoldable pub start_of : List ℕ → ℕ → ℕ
start_of s i = passed s i 4 (length s)

-- a part of the record that a field is; 0 and 0 if it is none
abbrev pub contents_in : Part → List ℕ → Option Field → Span
contents_in which s None = record { start = 0; end = 0 }
contents_in Range s (Some f) = range_span s f.tag f.start f.end
contents_in Handle s (Some f) = handle_span s f.tag f.start f.end
contents_in Name s (Some f) = name_span s f.tag f.start f.end

-- of the record at a position
unfoldable pub contents_span : Part → List ℕ → ℕ → Span
contents_span which s at = contents_in which s (field_at s at (length s))

-- Where a part of a record starts and ends in the image; 0 and 0 if the image is defective or there is no such record.
unfoldable pub span_of : List ℕ → ℕ → Part → Span
span_of s n which =
    cond (ltb n (length (records_of (image_of s)))) (contents_span which s (start_of s n)) (record { start = 0; end = 0 })

-- such a part in positions
pub record PartSpan (s : List ℕ) (n : ℕ) (which : Part) (r : Span) : Type 0 where
  pub same : r ≡ span_of s n which
  pub bytes : slice r.start r.end s ≡ excerpt_of (image_of s) n which
  pub inside : Inside (length s) r

-- What stands there is the part. Proved in proofs/Spans.antt.
abbrev pub SpanIsPart : Type 0
SpanIsPart = (s : List ℕ) (n : ℕ) (which : Part) → PartSpan s n which (span_of s n which)
