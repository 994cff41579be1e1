-- Gathering the blocks of a run: the k-th block of the family is record `from + k`.
use Prim.Native.Nat.{ℕ, zero, suc, ◌+◌, ◌≤◌, ◌<◌}
use mathlib.Core.Path.{◌≡◌, refl, sym, ap, ◌∙◌}
use mathlib.Core.List.{List, ◌∷◌}
use native.Mathlib.Omega.{arith}
use native.Mathlib.Decide.{dec_lt}
use native.Mathlib.Nat.{add-zero}
use lib.ListN.{length, drop, get_or, set, length-drop}
use lib.Seq.{drop-cons, get_or-set_same, get_or-set_other}
use Rattle.registry.specs.Tags.{width_of}
use Rattle.address.specs.Positions.{range_in}
use Rattle.address.specs.declared.AddressRange.{AddressRange}
use Rattle.image.specs.declared.Run.{Run}
use Rattle.forest.specs.Blocks.{Block}
use Rattle.scans.specs.Standing.{blocks_in, Searchable}
use Rattle.scans.proofs.Walks.{blocks_left, run-start, run_end, within, Here, comparable, next-left, asked-accepted, asked-few}
use Rattle.links.specs.Links.{absent, nth, Reachable, Started, Gathered, Numbered}

-- one more start, stored at n
pub start-more : (starts firsts : List ℕ) (from n v : ℕ) → n < length firsts → v ≡ get_or starts (from + n) 0 + 6
    → ((k : ℕ) → k < n → get_or firsts k 0 ≡ get_or starts (from + k) 0 + 6)
    → (k : ℕ) → k < n + 1 → get_or (set firsts n v) k 0 ≡ get_or starts (from + k) 0 + 6
start-more starts firsts from n v h e inv k p = go (dec_lt k n)
  where
    go : Dec (k < n) → get_or (set firsts n v) k 0 ≡ get_or starts (from + k) 0 + 6
    go (yes b) = let o : k ≡ n → ⊥ = λ z. omega arith in get_or-set_other firsts n k v 0 o ∙ inv k b
    go (no b) = let z : k ≡ n = omega arith in rw z (get_or-set_same firsts n v 0 h ∙ e)

module _ {s starts : List ℕ} {blocks : Run} {range : AddressRange} (q : Searchable s starts blocks range) where
  pub reachable : Reachable starts blocks
  reachable = record { forward = q.selected.run_of.forward; few = asked-few q; low = λ i h k. (within q h k).1 }

  here : {i at : ℕ} → blocks.from ≤ i → i < blocks.until → at ≡ get_or starts i 0 + 6 → Here s starts blocks range i at (width_of blocks.low)
  here low high e = record { asked = q; low = low; high = high; start = e; wide = refl }

  -- the block that is record `from + k`
  found : ℕ → Block
  found k = record { number = blocks.from + k; range = range_in s (get_or starts (blocks.from + k) 0 + 6) (width_of blocks.low) }

  -- after k blocks
  abbrev Passed : ℕ → Type 0
  Passed k = (k ≤ length (blocks_in s blocks.low)) × (drop k (blocks_in s blocks.low) ≡ blocks_left s blocks.low (blocks.from + k))

  module _ (k : ℕ) (h : blocks.from + k < blocks.until) (p : Passed k) where
    next : drop k (blocks_in s blocks.low) ≡ found k ∷ blocks_left s blocks.low (blocks.from + k + 1)
    unfolding found
    next = p.1 ∙ next-left (here (omega arith) h refl)

    more : k < length (blocks_in s blocks.low)
    more = let e = ap length next in omega (arith, length-drop k (blocks_in s blocks.low))

    split : nth (blocks_in s blocks.low) k ∷ drop (suc k) (blocks_in s blocks.low) ≡ found k ∷ blocks_left s blocks.low (blocks.from + k + 1)
    split = sym (drop-cons (blocks_in s blocks.low) k absent more) ∙ next

  passed : (k : ℕ) → blocks.from + k ≤ blocks.until → Passed k
  passed zero h = (omega arith, rw (add-zero blocks.from) (sym (run-start q)))
  passed (suc k) h =
      let p = passed k (omega arith) in
      let b = more k (omega arith) p in
      let e = split k (omega arith) p in
      let w : blocks.from + suc k ≡ blocks.from + k + 1 = omega arith in
      (omega arith, rw w (cc))

  nth-found : (k : ℕ) → blocks.from + k < blocks.until → nth (blocks_in s blocks.low) k ≡ found k
  nth-found k h = let e = split k h (passed k (omega arith)) in cc

  module _ {firsts : List ℕ} {n : ℕ} (g : Started starts blocks firsts n) where
    pub gathered : Gathered s blocks.low firsts n
    unfolding found
    gathered =
        let c = g.counted in
        let p = passed n (omega arith) in
        let e = ap length (p.1 ∙ run_end q (blocks.from + n) (omega arith) (omega arith)) in
        record {
          nested = asked-accepted q;
          counted = omega (arith, p.0, length-drop n (blocks_in s blocks.low));
          few = omega (arith, asked-few q);
          ranges = λ k h. rw (g.start k h) (ap (λ (b : Block). b.range) (nth-found k (omega arith)));
          fits = λ k h. (comparable (here {i = blocks.from + k} (omega arith) (omega arith) (g.start k h))).fits;
        }

    pub numbered : Numbered s blocks.low blocks.from n
    unfolding found
    numbered =
        let c = g.counted in
        record { few = omega (arith, asked-few q); number = λ k h. ap (λ (b : Block). b.number) (nth-found k (omega arith)) }
