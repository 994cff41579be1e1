-- Serves contracts and proofs. The step: one record after the one before it and among the open blocks of its family (defects 6 and 7).
use Rattle.std.specs.Prelude.{Bool, true, false, cond, ◌&&◌, Option, Some, ok_or, Result, Err, List, ◌≡◌, ℕ, ◌+◌, ◌*◌, ◌≤◌, ◌<◌, eqb, length}
use Rattle.registry.specs.declared.Defect.{Defect}
use Rattle.registry.specs.declared.Defect.TheVariants.{Unsorted, Crossing}
use Rattle.registry.specs.Tags.{is_block, width_of, as_block}
use Rattle.address.specs.Ranges.{sorts_after}
use Rattle.address.specs.Positions.{range_in}
use Rattle.records.specs.Record.{Record, range_of}
use Rattle.records.specs.Judge.{in_order}
use Rattle.records.specs.Positions.{previous_of}
use Rattle.records.specs.Layout.{parts_of, record_on, LaidOut}
use Rattle.records.specs.declared.Layout.{Layout}
use Rattle.nesting.specs.Nest.{nest_of, Opened, open_last, NestRoom}

-- a record after one of the tag `before`: only a block after a block of its tag is nested
abbrev pub nest_in : (ℕ → ℕ) → ℕ → Record → ℕ → Option ℕ
nest_in lasts before r depth = cond (is_block r.tag && eqb before r.tag) (nest_of lasts (range_of r) depth) (Some 0)

-- defect 6 comes before defect 7
abbrev pub step_in : Bool → Option ℕ → Result ℕ Defect
step_in false nesting = Err Unsorted
step_in true nesting = ok_or nesting Crossing

-- In positions. The record before, which has the tag 0 if there is none, lies in `b`, the record in `s`; the ranges of the open blocks start at the
-- first `depth` positions of `stack` in `o`

-- a block whose range starts at `start`, after one of its tag, whose range is that of `b` at `from`
pub record BlockRoom (b : List ℕ) (from : ℕ) (s : List ℕ) (start width : ℕ) (o stack : List ℕ) (depth : ℕ) : Type 0 where
  pub before : from + 2 * width ≤ length b
  pub room : NestRoom s start width o stack depth

abbrev pub block_step : List ℕ → ℕ → List ℕ → ℕ → ℕ → List ℕ → List ℕ → ℕ → Result ℕ Defect
block_step b from s start width o stack depth =
    step_in (sorts_after (range_in b from width) (range_in s start width)) (nest_of (open_last o width stack) (range_in s start width) depth)

abbrev pub record_before : List ℕ → Layout → List Record
record_before b p = previous_of b p.tag (parts_of p)

pub record Coming (b : List ℕ) (p : Layout) (s : List ℕ) (r : Layout) (o stack : List ℕ) (depth : ℕ) : Type 0 where
  pub laid : LaidOut (length s) r
  pub earlier : 0 < p.tag → LaidOut (length b) p
  pub open_blocks : r.tag ≤ as_block → p.tag ≡ r.tag → (depth ≤ length stack) × Opened o (width_of r.tag) stack depth

-- how many blocks stay open around the record, or its defect
abbrev pub step_on : List ℕ → Layout → List ℕ → Layout → List ℕ → List ℕ → ℕ → Result ℕ Defect
step_on b p s r o stack depth =
    step_in (in_order (record_before b p) (record_on s r)) (nest_in (open_last o (width_of p.tag) stack) p.tag (record_on s r) depth)
