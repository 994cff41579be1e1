-- Serves contracts and proofs. What a run is searched for: the test of one record, by its tag and one of its texts, and the records of an image that are found.
use Rattle.std.specs.Prelude.{ℕ, List, Bool, ◌&&◌}
use Rattle.octets.specs.Lists.{within}
use Rattle.pattern.specs.Pattern.{matches_form}
use Rattle.pattern.specs.declared.Form.{Form}
use Rattle.records.specs.Record.{Record}
use Rattle.records.specs.Positions.{bytes_of}
use Rattle.image.specs.Image.{image_of}
use Rattle.image.specs.Part.{records_of, contents_of}
use Rattle.image.specs.Entries.{contents_span}
use Rattle.image.specs.declared.Run.{Run}
use Rattle.registry.specs.declared.Part.{Part}
use Rattle.registry.specs.declared.Text.{Text}
use Rattle.search.specs.Search.{numbers_from, is_called, is_match}

-- the handle or the name of the record at a position
abbrev pub text_at : List ℕ → ℕ → Part → List ℕ
text_at image at which = bytes_of image (contents_span which image at)

-- a tag from low to high, and a part of the record that matches; fold says whether case is folded
abbrev pub picks_record : ℕ → ℕ → Part → Bool → Form → List ℕ → Record → Bool
picks_record low high which fold form pattern r = within low high r.tag && matches_form fold form pattern (contents_of which r)

-- the numbers of the records of an image that pass a test
abbrev pub numbers_in : (Record → Bool) → List ℕ → List ℕ
numbers_in p image = numbers_from p 0 (records_of (image_of image))

-- those of the run's tags whose text is the one wanted
abbrev pub called_in : List ℕ → Run → Text → List ℕ → List ℕ
called_in image run text wanted = numbers_in (is_called run.low run.high text wanted) image

-- whose text matches a pattern
abbrev pub matching_in : List ℕ → Run → Text → Form → List ℕ → List ℕ
matching_in image run text form pattern = numbers_in (is_match run.low run.high text form pattern) image

-- whose part matches it
abbrev pub picked_in : List ℕ → Run → Part → Bool → Form → List ℕ → List ℕ
picked_in image run which fold form pattern = numbers_in (picks_record run.low run.high which fold form pattern) image
