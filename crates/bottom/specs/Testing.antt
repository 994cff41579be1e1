-- Serves contracts and proofs. The test of a block, what it asks, and the blocks that pass it.
use Rattle.std.specs.Prelude.{ℕ, ◌<◌, Bool, List}
use Rattle.address.specs.Ranges.{Range}
use Rattle.forest.specs.Blocks.{Block}
use Rattle.forest.specs.Relations.{select}
use Rattle.forest.specs.Scans.{gap_pass, gap_in}
use Rattle.scans.specs.Standing.{blocks_in}
use Rattle.links.specs.Links.{nth, Linked, Gathered}

-- what the test of block i asks
pub record Testable (s : List ℕ) (family : ℕ) (firsts links : List ℕ) (n i : ℕ) : Type 0 where
  pub gathered : Gathered s family firsts n
  pub linked : Linked (blocks_in s family) links 0
  pub known : i < n

-- the range of block i
abbrev pub range_at : List ℕ → ℕ → ℕ → Range
range_at s family i = (nth (blocks_in s family) i).range

-- whether the blocks strictly inside block i leave an address from free to limit
abbrev pub leaves_from : List ℕ → ℕ → ℕ → ℕ → ℕ → Bool
leaves_from s family i free limit = gap_pass (range_at s family i) free limit (blocks_in s family)

-- whether a block is the smallest one that holds some address of q
abbrev pub is_holder : List Block → Range → Block → Bool
is_holder bs q b = gap_in bs q b.range

-- the numbers of these blocks
abbrev pub holders_of : List Block → Range → List ℕ
holders_of bs q = select (is_holder bs q) bs
