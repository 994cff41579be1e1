-- Bottom in the words of S10.3, beside the test that computes it: "empty if no block is strictly inside; else every block that is
-- the smallest one holding some address of the range". Proved in proofs/Bottom.antt for the blocks of every accepted family.
use Rattle.std.specs.Prelude.{ℕ, ◌↔◌, ◌≡◌, List, [], ◌∷◌, T}
use Rattle.octets.specs.Lists.{◌∈◌, any}
use Rattle.address.specs.Ranges.{Range, single, covers, strictly_inside}
use Rattle.forest.specs.Blocks.{Block}
use Rattle.forest.specs.Relations.{lookup, bottom}

-- b is the lookup answer for some address x of q
pub record SmallestAtSome (bs : List Block) (q : Range) (b : Block) : Type 0 where
  pub address : ℕ
  pub of_range : T (covers q (single address))
  pub found : lookup bs (single address) ≡ b.number ∷ []

abbrev pub BottomIs : List Block → Type 0
BottomIs bs =
    (q : Range) (b : Block) → b ∈ bs
    → (b.number ∈ bottom bs q) ↔ (T (any (λ (c : Block). strictly_inside c.range q) bs) × SmallestAtSome bs q b)
