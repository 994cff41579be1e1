-- Serves contracts and proofs. One pass over the blocks in image order: what running code does. proofs/Scans.antt shows that it finds the answers of Relations.antt.
use Rattle.std.specs.Prelude.{ℕ, suc, max, min, Bool, false, cond, ◌&&◌, List, [], ◌∷◌, leb, ltb}
use Rattle.address.specs.Ranges.{Range, strictly_inside}
use Rattle.forest.specs.Blocks.{Block}

-- The last block that passes p, or else the best so far.
abbrev pub last_passing : (Block → Bool) → List Block → List ℕ → List ℕ
last_passing p [] best = best
last_passing p (b ∷ bs) best = last_passing p bs (cond (p b) (b.number ∷ []) best)

-- The first block that passes p.
abbrev pub first_passing : (Block → Bool) → List Block → List ℕ
first_passing p [] = []
first_passing p (b ∷ bs) = cond (p b) (b.number ∷ []) (first_passing p bs)

-- The blocks strictly inside q that begin at free or after, where free is the address after the last block kept.
abbrev pub down_pass : Range → ℕ → List Block → List ℕ
down_pass q free [] = []
down_pass q free (b ∷ bs) =
    cond (strictly_inside b.range q && leb free b.range.first) (b.number ∷ down_pass q (suc b.range.last) bs)
    (down_pass q free bs)

-- Some address from free to limit is held by no block strictly inside r.
abbrev pub gap_pass : Range → ℕ → ℕ → List Block → Bool
gap_pass r free limit [] = leb free limit
gap_pass r free limit (c ∷ bs) =
    cond (strictly_inside c.range r)
    (cond (ltb free c.range.first) (leb free limit)
    (cond (leb limit c.range.last) false (gap_pass r (max free (suc c.range.last)) limit bs)))
    (gap_pass r free limit bs)

-- The test of bottom: the block with range r is the smallest one that holds some address of q.
unfoldable pub gap_in : List Block → Range → Range → Bool
gap_in bs q r = gap_pass r (max q.first r.first) (min q.last r.last) bs
