-- Serves contracts and proofs. The fields of a record by a reader of what ends with it.
use Rattle.std.specs.Prelude.{false, ◌≡◌, List, ℕ, length, Option, Some, None}
use Rattle.std.proofs.Math.Seq.{slice}
use Rattle.records.specs.Record.{Record, whole, record_of, good_contents}
use Rattle.record_shape.specs.declared.Shape.{Shape}
use Rattle.records.specs.Layout.{layout_of, record_on, Lying}

-- the fields of a record stand so, or are not those of a good one
abbrev pub Shaped : List ℕ → ℕ → ℕ → ℕ → Option Shape → Type 0
Shaped s tag start end (Some x) =
    (record_of tag (slice start end s) ≡ whole (record_on s (layout_of tag start x.middle end))) × Lying (length s) (layout_of tag start x.middle end) x.from x.to
Shaped s tag start end None = (r : Record) → record_of tag (slice start end s) ≡ whole r → good_contents r ≡ false
