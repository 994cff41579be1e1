-- Serves contracts and proofs. The defect rules on the blocks of one tag, in image order (S5.1).
use Rattle.std.specs.Prelude.{Bool, true, not, ◌&&◌, List, [], ◌∷◌, ltb}
use Rattle.octets.specs.Lists.{any}
use Rattle.address.specs.Ranges.{well_formed, sorts_after, crosses}
use Rattle.forest.specs.Blocks.{Block}

-- Without defect 6: b comes strictly after its predecessor, the head of the earlier blocks. Records are numbered in image order.
unfoldable pub in_sequence : List Block → Block → Bool
in_sequence [] b = true
in_sequence (a ∷ earlier) b = ltb a.number b.number && sorts_after a.range b.range

-- b has none of the defects 5, 6 and 7 after the earlier blocks of its tag, the latest first.
unfoldable pub admissible : List Block → Block → Bool
admissible earlier b = well_formed b.range && in_sequence earlier b && not (any (λ a. crosses a.range b.range) earlier)

unfoldable pub accepted_after : List Block → List Block → Bool
accepted_after earlier [] = true
accepted_after earlier (b ∷ bs) = admissible earlier b && accepted_after (b ∷ earlier) bs

unfoldable pub accepted : List Block → Bool
accepted bs = accepted_after [] bs
