-- The answers of lookup, up, top, down and bottom in the words of S10.3 and S10.4, beside the tests that compute them.
-- Proved in proofs/Found.antt for the blocks of every accepted family.
use Rattle.std.specs.Prelude.{ℕ, Bool, ◌↔◌, ◌≡◌, List, [], T}
use Rattle.octets.specs.Lists.{◌∈◌}
use Rattle.address.specs.Ranges.{Range, covers, strictly_covers, strictly_inside, well_formed}
use Rattle.forest.specs.Blocks.{Block}
use Rattle.forest.specs.Relations.{lookup, up, top, down, bottom}
use Rattle.forest.specs.Forest.{Registered, AllRegistered}
use Rattle.forest.specs.Bottom.{BottomIs}

-- No block passes p.
abbrev pub NoBlock : (Range → Bool) → List Block → Type 0
NoBlock p bs = (b : Block) → b ∈ bs → T (p b.range) → ⊥

-- n is the record number of the smallest block that passes p: every block that passes p covers it.
pub record Smallest (p : Range → Bool) (bs : List Block) (n : ℕ) : Type 0 where
  pub is : Registered bs n
  pub passes : T (p is.block.range)
  pub covered : (c : Block) → c ∈ bs → T (p c.range) → T (covers c.range is.block.range)

-- n is the record number of the largest block that passes p: it covers every block that passes p.
pub record Largest (p : Range → Bool) (bs : List Block) (n : ℕ) : Type 0 where
  pub is : Registered bs n
  pub passes : T (p is.block.range)
  pub covering : (c : Block) → c ∈ bs → T (p c.range) → T (covers is.block.range c.range)

-- n is the record number of a block strictly inside q, with no block strictly between.
pub record NextInside (q : Range) (bs : List Block) (n : ℕ) : Type 0 where
  pub is : Registered bs n
  pub inside : T (strictly_inside is.block.range q)
  pub none_between : (c : Block) → c ∈ bs → T (strictly_inside c.range q) → T (strictly_inside is.block.range c.range) → ⊥

pub record Found (bs : List Block) : Type 0 where
  -- Lookup: the smallest covering block. It has no answer exactly if no block covers the range.
  pub lookup-is : (q : Range) (n : ℕ) → T (well_formed q) → (n ∈ lookup bs q) ↔ Smallest (λ r. covers r q) bs n
  pub lookup-none : (q : Range) → (lookup bs q ≡ []) ↔ NoBlock (λ r. covers r q) bs
  -- Up: the smallest strictly covering block.
  pub up_is : (q : Range) (n : ℕ) → T (well_formed q) → (n ∈ up bs q) ↔ Smallest (λ r. strictly_covers r q) bs n
  pub up_none : (q : Range) → (up bs q ≡ []) ↔ NoBlock (λ r. strictly_covers r q) bs
  -- Top: the largest strictly covering block.
  pub top-is : (q : Range) (n : ℕ) → T (well_formed q) → (n ∈ top bs q) ↔ Largest (λ r. strictly_covers r q) bs n
  pub top-none : (q : Range) → (top bs q ≡ []) ↔ NoBlock (λ r. strictly_covers r q) bs
  -- Down: blocks strictly inside, with no registered block strictly between.
  pub down_is : (q : Range) (n : ℕ) → (n ∈ down bs q) ↔ NextInside q bs n
  -- Bottom: empty if no block is strictly inside; else every block that is the smallest one holding some address of the range.
  pub bottom-is : BottomIs bs
  pub bottom-registered : (q : Range) → AllRegistered bs (bottom bs q)
