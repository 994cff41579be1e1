-- The answers of lookup, up, down, top and bottom: the record numbers of blocks of one family, in image order (S10.3).
use Rattle.std.specs.Prelude.{ℕ, suc, max, Bool, true, false, not, ◌&&◌, List, [], ◌∷◌, map}
use Rattle.octets.specs.Lists.{filter, any}
use Rattle.address.specs.Ranges.{Range, single, covers, strictly_covers, strictly_inside}
use Rattle.forest.specs.Blocks.{Block}

-- b passes the test p, and no registered block c that passes p has better c b.
unfoldable pub is_best : (Range → Range → Bool) → (Range → Bool) → List Block → Block → Bool
is_best better p bs b = p b.range && not (any (λ c. p c.range && better c.range b.range) bs)

-- The record numbers of the blocks that pass a test, ascending.
unfoldable pub select : (Block → Bool) → List Block → List ℕ
select f bs = map (λ (b : Block). b.number) (filter f bs)

-- Blocks that pass p with no block strictly inside that passes p.
unfoldable pub smallest : (Range → Bool) → List Block → List ℕ
smallest p bs = select (is_best strictly_inside p bs) bs

-- Blocks that pass p with no block strictly around that passes p.
unfoldable pub largest : (Range → Bool) → List Block → List ℕ
largest p bs = select (is_best strictly_covers p bs) bs

unfoldable pub lookup : List Block → Range → List ℕ
lookup bs q = smallest (λ r. covers r q) bs

unfoldable pub up : List Block → Range → List ℕ
up bs q = smallest (λ r. strictly_covers r q) bs

unfoldable pub top : List Block → Range → List ℕ
top bs q = largest (λ r. strictly_covers r q) bs

-- Blocks strictly inside q, with no registered block strictly between.
unfoldable pub down : List Block → Range → List ℕ
down bs q = largest (λ r. strictly_inside r q) bs

-- The addresses at which it is tried whether b is the smallest block that holds some address of q: the first that both share,
-- and the one after each block's last. holds-some of proofs/Bottom.antt shows that no other need be tried.
unfoldable pub candidates : List Block → Range → Block → List ℕ
candidates bs q b = max q.first b.range.first ∷ map (λ (c : Block). suc c.range.last) bs

-- b is the smallest block that holds some address of q.
unfoldable pub holds_some : List Block → Range → Block → Bool
holds_some bs q b = any (λ x. covers q (single x) && is_best strictly_inside (λ r. covers r (single x)) bs b) (candidates bs q b)

abbrev pub only_if : Bool → List ℕ → List ℕ
only_if true ns = ns
only_if false ns = []

unfoldable pub bottom : List Block → Range → List ℕ
bottom bs q = only_if (any (λ b. strictly_inside b.range q) bs) (select (holds_some bs q) bs)
