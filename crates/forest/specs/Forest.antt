-- The blocks of one family form one forest (S11). The theorem for images is forest of the crate rdap.
use Rattle.std.specs.Prelude.{ℕ, suc, ◌≤◌, not, ◌↔◌, ◌⊎◌, ◌≡◌, List, [], ◌∷◌, T, length}
use Rattle.octets.specs.Lists.{◌∈◌}
use Rattle.address.specs.Ranges.{Range, covers, equals, strictly_inside, overlaps, well_formed}
use Rattle.forest.specs.Blocks.{Block}
use Rattle.forest.specs.Relations.{lookup, up, top, down}

-- n is the record number of a block.
pub record Registered (bs : List Block) (n : ℕ) : Type 0 where
  pub block : Block
  pub member : block ∈ bs
  pub numbered : n ≡ block.number

-- Every record number of an answer is that of a block.
abbrev pub AllRegistered : List Block → List ℕ → Type 0
AllRegistered bs answer = (n : ℕ) → n ∈ answer → Registered bs n

-- A walk of n steps from record number a to record number b: each step goes on to a number in the answer for the number before.
pub data Steps (answer : ℕ → List ℕ) : ℕ → ℕ → ℕ → Type 0 where
  none : {a : ℕ} → Steps answer a 0 a
  step : {a c b n : ℕ} → c ∈ answer a → Steps answer c n b → Steps answer a (suc n) b

-- Going up from q until up has no answer, which ends at the record number end.
pub record Climb (bs : List Block) (upward : ℕ → List ℕ) (q : Range) (end : ℕ) : Type 0 where
  pub from : ℕ
  pub steps : ℕ
  pub starts : from ∈ up bs q
  pub climbs : Steps upward from steps end
  pub ends : upward end ≡ []

-- The record number b is reached by zero or more down steps from one member of the down list of q, and from no other.
pub record ReachedOnce (bs : List Block) (downward : ℕ → List ℕ) (q : Range) (b : ℕ) : Type 0 where
  pub member : ℕ
  pub steps : ℕ
  pub listed : member ∈ down bs q
  pub reaches : Steps downward member steps b
  pub only : (other n : ℕ) → other ∈ down bs q → Steps downward other n b → other ≡ member

-- The block that lookup finds for q.
pub record Finds (bs : List Block) (q : Range) : Type 0 where
  pub block : Block
  pub member : block ∈ bs
  pub answers : lookup bs q ≡ block.number ∷ []

-- The block found for the inner range lies inside the one found for the outer range, or is that one.
pub record FoundInside (bs : List Block) (outer inner : Range) : Type 0 where
  pub around : Finds bs outer
  pub found : Finds bs inner
  pub inside : T (covers around.block.range found.block.range)

-- bs are the blocks of a family; upward, downward and topward are the third call's answers for a record number.
pub record Forest (bs : List Block) (upward downward topward : ℕ → List ℕ) : Type 0 where
  -- A block's range is not empty: first is not above last.
  pub well_formed_lem : (b : Block) → b ∈ bs → T (well_formed b.range)
  -- Blocks are distinct, and nested or disjoint.
  pub distinct : (a b : Block) → a ∈ bs → b ∈ bs → T (equals a.range b.range) → a ≡ b
  pub nested_or_disjoint :
      (a b : Block) → a ∈ bs → b ∈ bs
      → T (covers a.range b.range) ⊎ (T (covers b.range a.range) ⊎ T (not (overlaps a.range b.range)))
  -- The answers for every range are record numbers of blocks.
  pub registered :
      (q : Range) → AllRegistered bs (lookup bs q) × AllRegistered bs (up bs q) × AllRegistered bs (down bs q) × AllRegistered bs (top bs q)
  -- For the record number of a block, the third call answers as for the block's range.
  pub by_number :
      (b : Block) → b ∈ bs
      → (upward b.number ≡ up bs b.range) × (downward b.number ≡ down bs b.range) × (topward b.number ≡ top bs b.range)
  -- At most one block is found by lookup, up and top, and a walk upward meets no block twice.
  pub one_found : (q : Range) → T (well_formed q) → (length (lookup bs q) ≤ 1) × (length (up bs q) ≤ 1) × (length (top bs q) ≤ 1)
  pub no_cycle : (a : Block) (n : ℕ) → a ∈ bs → Steps upward a.number (suc n) a.number → ⊥
  -- Steps upward from a range, the first included, number at most the blocks.
  pub bounded : (q : Range) (a b n : ℕ) → T (well_formed q) → a ∈ up bs q → Steps upward a n b → suc n ≤ length bs
  -- b is in down of a exactly when up of b is a.
  pub down-up : (a b : Block) → a ∈ bs → b ∈ bs → (b.number ∈ downward a.number) ↔ (upward b.number ≡ a.number ∷ [])
  -- Going up from a range ends at its top, or up and top both have no answer.
  pub up_top :
      (q : Range) → T (well_formed q)
      → ((up bs q ≡ []) × (top bs q ≡ [])) ⊎ ((end : ℕ) × (top bs q ≡ end ∷ []) × Climb bs upward q end)
  -- However one goes up, it ends there.
  pub climb-top : (q : Range) (end : ℕ) → T (well_formed q) → Climb bs upward q end → top bs q ≡ end ∷ []
  -- Each block strictly inside a range is reached from exactly one member of its down list.
  pub inside-reached :
      (q : Range) (b : Block) → T (well_formed q) → b ∈ bs → T (strictly_inside b.range q) → ReachedOnce bs downward q b.number
  -- Of two ranges, one inside the other: if the outer one has an answer, the inner one has one, and its block lies inside the outer one's.
  pub lookup-inside :
      (outer inner : Range) (n : ℕ) → T (well_formed outer) → T (well_formed inner) → T (covers outer inner)
      → n ∈ lookup bs outer → FoundInside bs outer inner
