-- The answers of lookup, up, top and down as properties of blocks.
use Prim.Native.Nat.{ℕ, ◌<◌}
use mathlib.Core.Bool.{Bool}
use mathlib.Core.Logic.{◌⊎◌, inl, inr, ◌↔◌}
use mathlib.Core.Path.{◌≡◌, sym, ◌∙◌}
use mathlib.Core.List.{List, [], ◌∷◌}
use native.Mathlib.Omega.{arith}
use Rattle.octets.specs.Lists.{◌∈◌}
use Rattle.address.specs.Ranges.{Range, covers, strictly_covers, strictly_inside}
use Rattle.forest.specs.Blocks.{Block}
use Rattle.forest.specs.Relations.{is_best, select, smallest, largest, lookup, up, top, down}
use Rattle.forest.specs.Scans.{first_passing, last_passing}
use Rattle.address.proofs.Geometry.{Proper, Covers, Strictly, covers-iff, strictly_iff, inside-iff}
use Rattle.forest.proofs.Laminar.{Laminar, same_number, around-first, chain}
use Rattle.forest.proofs.Select.{select-none, select_yes, yes-select, select-one, listed, First, Last, None, first_such, last_such, first-none, last_none, Decides, Compares, around-test, inside-test, Best, best_iff}

abbrev pub Inside : Range → Range → Type 0
Inside a b = Strictly b a

module _ (q : Range) where
  abbrev pub Covering : Range → Type 0
  Covering r = Covers r q

  abbrev pub Around : Range → Type 0
  Around r = Strictly r q

  abbrev pub Within : Range → Type 0
  Within r = Strictly q r

  pub covering : Decides (λ r. covers r q) Covering
  covering = record { iff = λ r. covers-iff r q }

  pub around : Decides (λ r. strictly_covers r q) Around
  around = record { iff = λ r. strictly_iff r q }

  pub within : Decides (λ r. strictly_inside r q) Within
  within = record { iff = λ r. inside-iff r q }

-- The answer ns: the one block with the property Good, or nothing where no block has P.
pub data Answer (bs : List Block) (P : Range → Type 0) (Good : Block → Type 0) (ns : List ℕ) : Type 0 where
  found : {b : Block} → b ∈ bs → Good b → ns ≡ b.number ∷ [] → Answer bs P Good ns
  missing : ((c : Block) → c ∈ bs → P c.range → ⊥) → ns ≡ [] → Answer bs P Good ns

module _ {bs : List Block} (l : Laminar bs) where
  pub by_number : {a b : Block} → a ∈ bs → b ∈ bs → (a.number < b.number → ⊥) → (b.number < a.number → ⊥) → a ≡ b
  by_number m n f g = same_number l m n (omega arith)

  module _ {better : Range → Range → Bool} {Better : Range → Range → Type 0} {p : Range → Bool} {P : Range → Type 0} (e : Compares better Better) (d : Decides p P) where
    pub listed-iff : {b : Block} → b ∈ bs → (b.number ∈ select (is_best better p bs) bs) ↔ Best Better P bs b
    listed-iff {b} m = (
      λ n. (best_iff e d bs b).0 (listed (is_best better p bs) l m n),
      λ h. yes-select (is_best better p bs) bs m ((best_iff e d bs b).1 h),
    )

    pub members : {n : ℕ} → n ∈ select (is_best better p bs) bs → (b : Block) × (b ∈ bs) × (n ≡ b.number) × Best Better P bs b
    members i = let r = select_yes (is_best better p bs) bs i in (r.0, r.1, r.3, (best_iff e d bs r.0).0 r.2)

    pub answer-is :
        {b : Block} → b ∈ bs → Best Better P bs b → ((c : Block) → c ∈ bs → Best Better P bs c → c ≡ b)
        → select (is_best better p bs) bs ≡ b.number ∷ []
    answer-is {b} m h only = select-one (is_best better p bs) l m ((best_iff e d bs b).1 h) (λ c n t. only c n ((best_iff e d bs c).0 t))

    pub answer-none : ((c : Block) → c ∈ bs → P c.range → ⊥) → select (is_best better p bs) bs ≡ []
    answer-none n = select-none (is_best better p bs) bs (λ c m t. n c m ((best_iff e d bs c).0 t).has)

  module _ {p : Range → Bool} {P : Range → Type 0} (d : Decides p P) where
    -- the last block in image order is one of the smallest, the first one of the largest
    pub last-smallest : (r : Last (λ b. p b.range) bs) → Best Inside P bs r.block
    last-smallest r =
        record {
          has = (d.iff r.block.range).0 r.passes;
          unbeaten = λ c m h s. let k = r.last c m ((d.iff c.range).1 h) in let j = around-first l r.registered m s in omega arith;
        }

    pub first-largest : (r : First (λ b. p b.range) bs) → Best Strictly P bs r.block
    first-largest r =
        record {
          has = (d.iff r.block.range).0 r.passes;
          unbeaten = λ c m h s. let k = r.first c m ((d.iff c.range).1 h) in let j = around-first l m r.registered s in omega arith;
        }

    -- where the blocks with P all cover one range, the smallest and the largest are the only ones
    module _ (q : Range) (pq : Proper q) (cover : (r : Range) → P r → Covers r q) where
      pub one-smallest : {a b : Block} → a ∈ bs → b ∈ bs → Best Inside P bs a → Best Inside P bs b → a ≡ b
      one-smallest {a} {b} m n f g =
          by_number m n (λ h. f.unbeaten b n g.has (chain l q pq m n (cover a.range f.has) (cover b.range g.has) h))
          (λ h. g.unbeaten a m f.has (chain l q pq n m (cover b.range g.has) (cover a.range f.has) h))

      pub one-largest : {a b : Block} → a ∈ bs → b ∈ bs → Best Strictly P bs a → Best Strictly P bs b → a ≡ b
      one-largest {a} {b} m n f g =
          by_number m n (λ h. g.unbeaten a m f.has (chain l q pq m n (cover a.range f.has) (cover b.range g.has) h))
          (λ h. f.unbeaten b n g.has (chain l q pq n m (cover b.range g.has) (cover a.range f.has) h))

      only-last : (r : Last (λ b. p b.range) bs) → smallest p bs ≡ r.block.number ∷ []
      unfolding smallest
      only-last r = answer-is inside-test d r.registered (last-smallest r) (λ c n h. one-smallest n r.registered h (last-smallest r))

      only-first : (r : First (λ b. p b.range) bs) → largest p bs ≡ r.block.number ∷ []
      unfolding largest
      only-first r = answer-is around-test d r.registered (first-largest r) (λ c n h. one-largest n r.registered h (first-largest r))

      no-smallest : None (λ b. p b.range) bs → smallest p bs ≡ []
      unfolding smallest
      no-smallest n = answer-none inside-test d (λ c m h. n c m ((d.iff c.range).1 h))

      no-largest : None (λ b. p b.range) bs → largest p bs ≡ []
      unfolding largest
      no-largest n = answer-none around-test d (λ c m h. n c m ((d.iff c.range).1 h))

      pub smallest-answer : Answer bs P (Best Inside P bs) (smallest p bs)
      smallest-answer = go (last_such (λ b. p b.range) l)
        where
          go : Last (λ b. p b.range) bs ⊎ None (λ b. p b.range) bs → Answer bs P (Best Inside P bs) (smallest p bs)
          go (inl r) = found r.registered (last-smallest r) (only-last r)
          go (inr n) = missing (λ c m h. n c m ((d.iff c.range).1 h)) (no-smallest n)

      pub largest-answer : Answer bs P (Best Strictly P bs) (largest p bs)
      largest-answer = go (first_such (λ b. p b.range) l)
        where
          go : First (λ b. p b.range) bs ⊎ None (λ b. p b.range) bs → Answer bs P (Best Strictly P bs) (largest p bs)
          go (inl r) = found r.registered (first-largest r) (only-first r)
          go (inr n) = missing (λ c m h. n c m ((d.iff c.range).1 h)) (no-largest n)

      pub smallest-scan : smallest p bs ≡ last_passing (λ b. p b.range) bs []
      smallest-scan = go (last_such (λ b. p b.range) l)
        where
          go : Last (λ b. p b.range) bs ⊎ None (λ b. p b.range) bs → smallest p bs ≡ last_passing (λ b. p b.range) bs []
          go (inl r) = only-last r ∙ sym (r.scanned [])
          go (inr n) = no-smallest n ∙ sym (last_none (λ b. p b.range) bs [] n)

      pub largest-scan : largest p bs ≡ first_passing (λ b. p b.range) bs
      largest-scan = go (first_such (λ b. p b.range) l)
        where
          go : First (λ b. p b.range) bs ⊎ None (λ b. p b.range) bs → largest p bs ≡ first_passing (λ b. p b.range) bs
          go (inl r) = only-first r ∙ sym r.scanned
          go (inr n) = no-largest n ∙ sym (first-none (λ b. p b.range) bs n)

  module _ (q : Range) where
    pub lookup-listed : {b : Block} → b ∈ bs → (b.number ∈ lookup bs q) ↔ Best Inside (Covering q) bs b
    unfolding lookup smallest
    lookup-listed m = listed-iff inside-test (covering q) m

    pub up-listed : {b : Block} → b ∈ bs → (b.number ∈ up bs q) ↔ Best Inside (Around q) bs b
    unfolding up smallest
    up-listed m = listed-iff inside-test (around q) m

    pub down-listed : {b : Block} → b ∈ bs → (b.number ∈ down bs q) ↔ Best Strictly (Within q) bs b
    unfolding down largest
    down-listed m = listed-iff around-test (within q) m

    pub up-members : {n : ℕ} → n ∈ up bs q → (b : Block) × (b ∈ bs) × (n ≡ b.number) × Best Inside (Around q) bs b
    unfolding up smallest
    up-members i = members inside-test (around q) i

    pub down-members : {n : ℕ} → n ∈ down bs q → (b : Block) × (b ∈ bs) × (n ≡ b.number) × Best Strictly (Within q) bs b
    unfolding down largest
    down-members i = members around-test (within q) i

    module _ (pq : Proper q) where
      pub lookup-answer : Answer bs (Covering q) (Best Inside (Covering q) bs) (lookup bs q)
      unfolding lookup
      lookup-answer = smallest-answer (covering q) q pq (λ r h. h)

      pub up-answer : Answer bs (Around q) (Best Inside (Around q) bs) (up bs q)
      unfolding up
      up-answer = smallest-answer (around q) q pq (λ r h. (h.0, h.1))

      pub top-answer : Answer bs (Around q) (Best Strictly (Around q) bs) (top bs q)
      unfolding top
      top-answer = largest-answer (around q) q pq (λ r h. (h.0, h.1))

      -- the one up, and that there is no other
      pub up_is : {a b : Block} → a ∈ bs → b ∈ bs → Best Inside (Around q) bs a → Best Inside (Around q) bs b → a ≡ b
      up_is = one-smallest (around q) q pq (λ r h. (h.0, h.1))
