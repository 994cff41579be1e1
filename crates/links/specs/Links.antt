-- Serves contracts and proofs. The blocks of a family by index, in image order: where their ranges stand, and the links by which a walk over a block's own children goes.
use Rattle.std.specs.Prelude.{ℕ, ◌+◌, ◌*◌, ◌≤◌, ◌<◌, ◌≡◌, List, T, length, get_or}
use Rattle.registry.specs.Limits.{most_image, most_records}
use Rattle.registry.specs.Tags.{width_of, range_offset}
use Rattle.address.specs.Positions.{range_in}
use Rattle.image.specs.declared.Run.{Run}
use Rattle.forest.specs.Blocks.{Block}
use Rattle.forest.specs.Defects.{accepted}
use Rattle.scans.specs.Standing.{blocks_in}

-- what stands past the end of a list of blocks
abbrev pub absent : Block
absent = record { number = 0; range = record { first = 0; last = 0 } }

abbrev pub nth : List Block → ℕ → Block
nth bs k = get_or bs k absent

-- k is the index of the first block after block i that does not lie inside it
pub record Link (bs : List Block) (i k : ℕ) : Type 0 where
  pub ahead : i < k
  pub upto : k ≤ length bs
  pub inner : (j : ℕ) → i < j → j < k → (nth bs j).range.last ≤ (nth bs i).range.last
  pub past : (j : ℕ) → k ≤ j → j < length bs → (nth bs i).range.last < (nth bs j).range.first

-- the links of the blocks from index i on
abbrev pub Linked : List Block → List ℕ → ℕ → Type 0
Linked bs links i = (j : ℕ) → i ≤ j → j < length bs → Link bs j (get_or links j 0)

-- the records of a run, each of which starts inside an image
pub record Reachable (starts : List ℕ) (blocks : Run) : Type 0 where
  pub forward : blocks.from ≤ blocks.until
  pub few : blocks.until ≤ most_records
  pub low : (i : ℕ) → blocks.from ≤ i → i < blocks.until → get_or starts i 0 ≤ most_image

-- where the ranges of the n blocks of a run start
pub record Started (starts : List ℕ) (blocks : Run) (firsts : List ℕ) (n : ℕ) : Type 0 where
  pub counted : blocks.from + n ≡ blocks.until
  pub start : (k : ℕ) → k < n → get_or firsts k 0 ≡ get_or starts (blocks.from + k) 0 + range_offset

-- the n blocks of a family of a sound image, and where their ranges start
pub record Gathered (s : List ℕ) (family : ℕ) (firsts : List ℕ) (n : ℕ) : Type 0 where
  pub nested : T (accepted (blocks_in s family))
  pub counted : length (blocks_in s family) ≡ n
  pub few : n ≤ most_records
  pub ranges : (k : ℕ) → k < n → (nth (blocks_in s family) k).range ≡ range_in s (get_or firsts k 0) (width_of family)
  pub fits : (k : ℕ) → k < n → get_or firsts k 0 + 2 * width_of family ≤ length s

-- and their record numbers, one after another
pub record Numbered (s : List ℕ) (family from n : ℕ) : Type 0 where
  pub few : from + n ≤ most_records
  pub number : (k : ℕ) → k < n → (nth (blocks_in s family) k).number ≡ from + k
