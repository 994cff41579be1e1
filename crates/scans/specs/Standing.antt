-- Serves contracts and proofs. Blocks where they stand in a sound image, and the range that is asked for.
use Rattle.std.specs.Prelude.{ℕ, ◌≤◌, true, ◌≡◌, List}
use Rattle.registry.specs.Tags.{is_block}
use Rattle.address.specs.Address.{number}
use Rattle.address.specs.declared.AddressRange.{AddressRange}
use Rattle.image.specs.Image.{image_of}
use Rattle.image.specs.Part.{records_of}
use Rattle.image.specs.Index.{Selected}
use Rattle.image.specs.declared.Run.{Run}
use Rattle.forest.specs.Blocks.{Block, blocks_of}

-- the blocks of a family of an image
unfoldable pub blocks_in : List ℕ → ℕ → List Block
blocks_in image family = blocks_of family (records_of (image_of image))

-- What is asked of a sound image with its index: the run of the records of one tag, a block's, and a range, first not above last.
pub record Searchable (image starts : List ℕ) (blocks : Run) (range : AddressRange) : Type 0 where
  pub selected : Selected image starts blocks
  pub one : blocks.high ≡ blocks.low
  pub block : is_block blocks.low ≡ true
  pub proper : number range.first ≤ number range.last
