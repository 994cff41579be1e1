-- Links: hopping from child to child of block i passes all that lies inside it, and stops at the first block that does not.
use Prim.Native.Nat.{ℕ, ◌+◌, ◌≤◌, ◌<◌}
use mathlib.Core.Bool.{Bool, true, false}
use mathlib.Core.Path.{◌≡◌, sym, ◌∙◌}
use mathlib.Core.List.{List}
use native.Mathlib.Omega.{arith}
use native.Mathlib.Decide.{dec_lt}
use borrow.Author.Tests.{leb-true, leb-false}
use lib.Dec.{leb}
use lib.ListN.{length, get_or, set}
use lib.Seq.{get_or-set_same, get_or-set_other}
use Rattle.registry.specs.Tags.{width_of}
use Rattle.octets.specs.Positions.{number_in}
use Rattle.forest.specs.Blocks.{Block}
use Rattle.address.proofs.Geometry.{Strictly}
use Rattle.forest.proofs.Laminar.{Laminar, accepted-laminar}
use Rattle.scans.specs.Standing.{blocks_in}
use Rattle.links.specs.Links.{nth, Link, Linked, Gathered}
use Rattle.links.proofs.Indices.{first-rises, begins-inside}

-- all blocks after block i and before j lie inside it
pub record Hopping (bs : List Block) (i j : ℕ) : Type 0 where
  pub ahead : i < j
  pub upto : j ≤ length bs
  pub inner : (m : ℕ) → i < m → m < j → (nth bs m).range.last ≤ (nth bs i).range.last

module _ {bs : List Block} (l : Laminar bs) (i : ℕ) where
  hop-start : i < length bs → Hopping bs i (i + 1)
  hop-start h = record { ahead = omega arith; upto = omega arith; inner = λ m a b. absurd (omega arith) }

  hop-next : (j k : ℕ) → Hopping bs i j → j < length bs → (nth bs j).range.first ≤ (nth bs i).range.last → Link bs j k → Hopping bs i k
  hop-next j k h u b n =
      let x = h.ahead in
      let y = n.ahead in
      let s : Strictly (nth bs i).range (nth bs j).range = begins-inside l i j x u b in
      record { ahead = omega arith; upto = n.upto; inner = λ m p q. by_order s m p q (dec_lt m j) (dec_lt j m) }
    where
      by_order : Strictly (nth bs i).range (nth bs j).range → (m : ℕ) → i < m → m < k → Dec (m < j) → Dec (j < m) → (nth bs m).range.last ≤ (nth bs i).range.last
      by_order s m p q (yes a) c = h.inner m p a
      by_order s m p q (no a) (yes c) = let z = n.inner m c q in omega arith
      by_order s m p q (no a) (no c) = let e : m ≡ j = omega arith in rw e (omega arith)

  hop-stop : (j : ℕ) → Hopping bs i j → (j < length bs → (nth bs i).range.last < (nth bs j).range.first) → Link bs i j
  hop-stop j h b =
      record {
        ahead = h.ahead;
        upto = h.upto;
        inner = h.inner;
        past = λ m p q.
            let x = b (omega arith) in
            let y = first-rises l j m p q in
            omega arith;
      }

-- the same where the blocks stand in the image, whose width the code has as w, and u is the answer of the comparison
module _ {s : List ℕ} {family : ℕ} {firsts : List ℕ} {n : ℕ} (g : Gathered s family firsts n) where
  laminar : Laminar (blocks_in s family)
  laminar = accepted-laminar (blocks_in s family) g.nested

  module _ (i : ℕ) (p : i < n) where
    pub hops_start : Hopping (blocks_in s family) i (i + 1)
    hops_start = hop-start laminar i (omega (arith, g.counted))

    module _ (j w : ℕ) (e : w ≡ width_of family) (h : Hopping (blocks_in s family) i j) (q : j < n) {u : Bool}
        (t : u ≡ leb (number_in s (get_or firsts j 0) w) (number_in s (get_or firsts i 0 + w) w)) where
      compared : u ≡ leb (nth (blocks_in s family) j).range.first (nth (blocks_in s family) i).range.last
      compared = rw (g.ranges j q, g.ranges i p, ← e) t

      pub hops_next : u ≡ true → (k : ℕ) → Link (blocks_in s family) j k → Hopping (blocks_in s family) i k
      hops_next f k m = hop-next laminar i j k h (omega (arith, g.counted)) (leb-true _ _ (sym compared ∙ f)) m

      pub hops_stop : u ≡ false → Link (blocks_in s family) i j
      hops_stop f = hop-stop laminar i j h (λ x. leb-false _ _ (sym compared ∙ f))

    pub hops_end : (j : ℕ) → Hopping (blocks_in s family) i j → n ≤ j → Link (blocks_in s family) i j
    hops_end j h q = hop-stop laminar i j h (λ x. absurd (omega (arith, g.counted)))

-- one more link
pub linked-more : (bs : List Block) (links : List ℕ) (i k : ℕ) → i < length links → Link bs i k → Linked bs links (i + 1) → Linked bs (set links i k) i
linked-more bs links i k h n inv j p q = go (dec_lt i j)
  where
    go : Dec (i < j) → Link bs j (get_or (set links i k) j 0)
    go (yes a) = let e : j ≡ i → ⊥ = λ z. omega arith in rw (get_or-set_other links i j k 0 e) (inv j (omega arith) q)
    go (no a) = let e : j ≡ i = omega arith in rw (e, get_or-set_same links i k 0 h) n
