-- Serves contracts and proofs. The records of a sound image by their numbers, found by an index of where each starts.
use Rattle.std.specs.Prelude.{true, ◌≡◌, Some, Result, Ok, List, [], ◌∷◌, ℕ, ◌+◌, ◌*◌, ◌≤◌, ◌<◌, length, drop, get_or}
use Rattle.std.proofs.Math.Seq.{slice}
use Rattle.registry.specs.Limits.{most_records}
use Rattle.registry.specs.Tags.{width_of, as_block, entity, head_length, ipv4_network, range_offset}
use Rattle.address.specs.Address.{numbers, range_at}
use Rattle.records.specs.Record.{Record, range_of, good_contents}
use Rattle.fields.specs.Positions.{field_at, field_of, passed}
use Rattle.records.specs.Positions.{bytes_of, Inside}
use Rattle.image.specs.Image.{image_from, image_of}
use Rattle.image.specs.Part.{records_of, contents_of}
use Rattle.image.specs.Entries.{start_of, contents_span}
use Rattle.image.specs.Checking.{verdict_of, numbers_in}
use Rattle.image.specs.declared.Run.{Run}
use Rattle.registry.specs.declared.Part.{Part}
use Rattle.registry.specs.declared.Flaw.{Flaw}

-- the tag of record i
unfoldable pub tag_of : List ℕ → ℕ → ℕ
tag_of s i = get_or s (start_of s i) 0

-- What stands where record i starts. `r` is the record, and it ends at `end`. Proved of every record of a sound image in proofs/Standing.antt.
pub record Standing (s : List ℕ) (i : ℕ) : Type 0 where
  pub r : Record
  pub end : ℕ
  pub here : drop i (records_of (image_of s)) ≡ r ∷ drop (i + 1) (records_of (image_of s))
  pub field-here : field_at s (start_of s i) (length s) ≡ Some (field_of (tag_of s i) (start_of s i + head_length) end)
  pub tag : tag_of s i ≡ r.tag
  pub good : good_contents r ≡ true
  pub low : ipv4_network ≤ tag_of s i
  pub high : tag_of s i ≤ entity
  pub within : start_of s i + head_length ≤ length s
  pub range_inside : tag_of s i ≤ as_block → start_of s i + range_offset + 2 * width_of (tag_of s i) ≤ length s
  pub range : tag_of s i ≤ as_block → slice (start_of s i + range_offset) (start_of s i + range_offset + 2 * width_of (tag_of s i)) s ≡ r.range
  pub range-numbers : tag_of s i ≤ as_block → numbers (range_at s (start_of s i + range_offset) (width_of (tag_of s i))) ≡ range_of r
  pub contents : (which : Part) → bytes_of s (contents_span which s (start_of s i)) ≡ contents_of which r
  pub contents-inside : (which : Part) → Inside end (contents_span which s (start_of s i))

-- The image is sound and has so many records, and `starts` says where each starts.
pub record Indexed (s : List ℕ) (count : ℕ) (starts : List ℕ) : Type 0 where
  pub sound : verdict_of (image_of s) ≡ Ok count
  pub full : length starts ≡ most_records
  pub start : (i : ℕ) → i < count → get_or starts i 0 ≡ start_of s i

-- what the pass over the records from a position on promises: the verdict on these, and where each starts
pub record Walking (s : List ℕ) (from : ℕ) (starts : List ℕ) (r : Result ℕ Flaw) : Type 0 where
  pub verdict : numbers_in r ≡ verdict_of (image_from most_records [] (drop from s))
  pub full : length starts ≡ most_records
  pub start : (count : ℕ) → r ≡ Ok count → (i : ℕ) → i < count → get_or starts i 0 ≡ passed s i from (length s)

-- what the index promises: the verdict, and of a sound image where its records start
pub record Indexing (s starts : List ℕ) (r : Result ℕ Flaw) : Type 0 where
  pub verdict : numbers_in r ≡ verdict_of (image_of s)
  pub indexed : (count : ℕ) → r ≡ Ok count → Indexed s count starts

-- The first record whose tag is not below this one has the number r; if there is none, r is how many records there are.
pub record FirstFrom (s : List ℕ) (count tag r : ℕ) : Type 0 where
  pub few : r ≤ count
  pub below : (i : ℕ) → i < r → tag_of s i < tag
  pub above : (i : ℕ) → r ≤ i → i < count → tag ≤ tag_of s i

-- The records of a sound image with a tag from low to high are those of the run.
pub record RunOf (s : List ℕ) (count : ℕ) (run : Run) : Type 0 where
  pub forward : run.from ≤ run.until
  pub ends : run.until ≤ count
  pub before : (i : ℕ) → i < run.from → tag_of s i < run.low
  pub inside : (i : ℕ) → run.from ≤ i → i < run.until → (run.low ≤ tag_of s i) × (tag_of s i ≤ run.high)
  pub behind : (i : ℕ) → run.until ≤ i → i < count → run.high < tag_of s i

-- a run of an image with its index
pub record Selected (s starts : List ℕ) (run : Run) : Type 0 where
  pub count : ℕ
  pub indexed : Indexed s count starts
  pub run_of : RunOf s count run
