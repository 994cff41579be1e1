-- Serves contracts and proofs. The pass for overlaps over the final records.
use Rattle.std.specs.Prelude.{◌≡◌, List, [], ℕ, ◌-◌, ◌≤◌, ◌<◌, length, get_or, drop, Option, Some, None}
use Rattle.registry.specs.Tags.{as_block}
use Rattle.registry.specs.Limits.{most_records}
use Rattle.records.specs.Record.{Record, last_of}
use Rattle.image.specs.Image.{defective, image_from}
use Rattle.rows.specs.Entry.{Entry, row_of}
use Rattle.merged.specs.Held.{parsed_from, Recorded}
use Rattle.merged.specs.Listed.{bytes_in}
use Rattle.merged.specs.declared.Records.{Records}

-- The open blocks start at the first `depth` starts of `stack`, the innermost last: they are blocks of this tag
abbrev pub OpenBlocks : Records → List ℕ → ℕ → ℕ → Type 0
OpenBlocks records stack depth tag = (d : ℕ) → d < depth
    → Recorded (bytes_in records (get_or stack d 0)) × ((parsed_from (bytes_in records (get_or stack d 0))).tag ≡ tag)

-- r is a block, and these are the open blocks of its tag
pub record Among (records : Records) (stack : List ℕ) (depth : ℕ) (r : List ℕ) : Type 0 where
  pub few : depth ≤ most_records
  pub whole : Recorded r
  pub block : (parsed_from r).tag ≤ as_block
  pub opened : OpenBlocks records stack depth (parsed_from r).tag

-- the last address of open block d
abbrev pub open_last : Records → List ℕ → ℕ → ℕ
open_last records stack d = last_of (parsed_from (bytes_in records (get_or stack d 0)))

-- the first n records of a row pass the check: what is left decides
pub record AllPassed (es : List Entry) (n : ℕ) : Type 0 where
  pub earlier : List Record
  pub counted : length earlier ≡ n
  pub rest : image_from (most_records - n) earlier (row_of (drop n es)) ≡ image_from most_records [] (row_of es)

-- the first of the first n records that overlaps an earlier one, if one does
abbrev pub Overlaps : List Entry → ℕ → Option ℕ → Type 0
Overlaps es n (Some k) = (k < n) × (image_from most_records [] (row_of es) ≡ defective 7 k)
Overlaps es n None = AllPassed es n
