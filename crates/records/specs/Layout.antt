-- Serves contracts and proofs. The parts of a record by its layout: the contents of each field come after a head of three bytes. In a block, field 20 has the size of its
-- range and field 23 one byte, so that fields 21 and 22 alone have a length of their own.
use Rattle.std.specs.Prelude.{true, cond, ◌≡◌, List, ℕ, ◌+◌, ◌-◌, ◌*◌, length}
use Rattle.std.proofs.Math.Seq.{slice}
use Rattle.registry.specs.Tags.{is_block, is_known, width_of, head_length}
use Rattle.records.specs.Record.{Record, whole, record_of, good_contents}
use Rattle.records.specs.Positions.{Parts, record_at, Placed}
use Rattle.records.specs.declared.Span.{Span}
use Rattle.records.specs.declared.Layout.{Layout}

abbrev pub span_from_to : ℕ → ℕ → Span
span_from_to from to = record { start = from; end = to }

abbrev pub layout_of : ℕ → ℕ → ℕ → ℕ → Layout
layout_of tag start middle end = record { tag = tag; start = start; middle = middle; end = end }

abbrev pub parts_of : Layout → Parts
parts_of l =
    cond (is_block l.tag)
    (record {
      range = span_from_to (l.start + head_length) (l.start + head_length + 2 * width_of l.tag);
      handle = span_from_to (l.start + 6 + 2 * width_of l.tag) l.middle;
      name = span_from_to (l.middle + head_length) (l.end - 4);
      status = span_from_to (l.end - 1) l.end;
    })
    (record {
      range = span_from_to l.start l.start;
      handle = span_from_to (l.start + head_length) l.middle;
      name = span_from_to (l.middle + head_length) l.end;
      status = span_from_to l.start l.start;
    })

-- the record that lies so
abbrev pub record_on : List ℕ → Layout → Record
record_on s l = record_at s l.tag (parts_of l)

-- all its parts before end
abbrev pub LaidOut : ℕ → Layout → Type 0
LaidOut end l = Placed l.tag end (parts_of l)

-- A record lies so, and has no defect from 3 to 5: all that can be said of it without the records before it.
pub record Readable (s : List ℕ) (l : Layout) : Type 0 where
  pub known : is_known l.tag ≡ true
  pub parsed : record_of l.tag (slice l.start l.end s) ≡ whole (record_on s l)
  pub placed : LaidOut (length s) l
  pub good : good_contents (record_on s l) ≡ true

-- where the handle of a record that lies so starts, and where its name ends
pub record Lying (end : ℕ) (l : Layout) (from to : ℕ) : Type 0 where
  pub laid : LaidOut end l
  pub handle : from ≡ (parts_of l).handle.start
  pub name : to ≡ (parts_of l).name.end
