-- One pass over the blocks of an accepted image finds each answer.
use Prim.Native.Nat.{ℕ, suc, ◌≤◌, ◌<◌}
use mathlib.Core.Bool.{Bool, not, ◌&&◌}
use mathlib.Core.Logic.{◌⊎◌, inl, inr, ◌↔◌}
use mathlib.Core.Path.{◌≡◌, refl, ap, ◌∙◌}
use mathlib.Core.List.Memᴰ
use mathlib.Core.List.{List, [], ◌∷◌}
use native.Mathlib.Omega.{arith}
use lib.Dec.{T, T_not, leb, leb→le, le→leb}
use Rattle.octets.specs.Lists.{◌∈◌}
use Rattle.address.specs.Ranges.{Range, covers, strictly_covers, strictly_inside, well_formed}
use Rattle.forest.specs.Blocks.{Block}
use Rattle.forest.specs.Defects.{accepted}
use Rattle.forest.specs.Relations.{is_best, select, largest, lookup, up, top, down}
use Rattle.forest.specs.Scans.{first_passing, last_passing, down_pass}
use Rattle.octets.proofs.Tests.{T_and, test, is_true, is_false, each}
use Rattle.address.proofs.Geometry.{Proper, Strictly, proper, inside-iff}
use Rattle.forest.proofs.Laminar.{Laminar, empty, cons, accepted-laminar, Before, around, left, is-proper}
use Rattle.forest.proofs.Select.{around-test, best_iff, select_kept, select-dropped}
use Rattle.forest.proofs.Answers as answers

module _ (bs : List Block) (t : T (accepted bs)) (q : Range) where
  module _ (w : T (well_formed q)) where
    pub lookup-scan : lookup bs q ≡ last_passing (λ b. covers b.range q) bs []
    unfolding lookup
    lookup-scan = answers.smallest-scan (accepted-laminar bs t) (answers.covering q) q ((proper q).0 w) (λ r h. h)

    pub up-scan : up bs q ≡ last_passing (λ b. strictly_covers b.range q) bs []
    unfolding up
    up-scan = answers.smallest-scan (accepted-laminar bs t) (answers.around q) q ((proper q).0 w) (λ r h. (h.0, h.1))

    pub top-scan : top bs q ≡ first_passing (λ b. strictly_covers b.range q) bs
    unfolding top
    top-scan = answers.largest-scan (accepted-laminar bs t) (answers.around q) q ((proper q).0 w) (λ r h. (h.0, h.1))

-- What holds before the blocks bs, the rest of the image, where free is the address after the last block kept and f is the test of down:
-- no block reaches across free, and a block passes f where it begins at free or after and no block of the rest strictly inside q is around it.
record Ready (q : Range) (f : Block → Bool) (free : ℕ) (bs : List Block) : Type 0 where
  clear : (b : Block) → b ∈ bs → (free ≤ b.range.first) ⊎ (b.range.last < free)
  passes :
      (b : Block) → b ∈ bs
      → T (f b)
      ↔ (Strictly q b.range × (free ≤ b.range.first) × ((c : Block) → c ∈ bs → Strictly q c.range → Strictly c.range b.range → ⊥))

module _ (q : Range) (f : Block → Bool) where
  -- after a block that is kept
  ready_kept :
      (free : ℕ) {x : Block} {bs : List Block} → Laminar (x ∷ bs) → free ≤ x.range.first → Strictly q x.range
      → Ready q f free (x ∷ bs) → Ready q f (suc x.range.last) bs
  ready_kept free {x} (cons {bs = bs} p before l) k s r = record { clear = λ b m. beside b (before b m); passes = λ b m. (λ t. later b m (before b m) ((r.passes b (Memᴰ.tail m)).0 t), λ h. (r.passes b (Memᴰ.tail m)).1 (earlier b m h)) }
    where
      beside : (b : Block) → Before x b → (suc x.range.last ≤ b.range.first) ⊎ (b.range.last < suc x.range.last)
      beside b (around h g) = inr (omega arith)
      beside b (left h g) = inl (omega arith)

      later :
          (b : Block) → b ∈ bs → Before x b
          → Strictly q b.range × (free ≤ b.range.first) × ((c : Block) → c ∈ (x ∷ bs) → Strictly q c.range → Strictly c.range b.range → ⊥)
          → Strictly q b.range × (suc x.range.last ≤ b.range.first) × ((c : Block) → c ∈ bs → Strictly q c.range → Strictly c.range b.range → ⊥)
      later b m (around h g) o = absurd (o.2 x (Memᴰ.head refl) s g)
      later b m (left h g) o = (o.0, omega arith, λ c n. o.2 c (Memᴰ.tail n))

      earlier :
          (b : Block) → b ∈ bs
          → Strictly q b.range × (suc x.range.last ≤ b.range.first) × ((c : Block) → c ∈ bs → Strictly q c.range → Strictly c.range b.range → ⊥)
          → Strictly q b.range × (free ≤ b.range.first) × ((c : Block) → c ∈ (x ∷ bs) → Strictly q c.range → Strictly c.range b.range → ⊥)
      earlier b m o =
          let pb = is-proper l m in
          (o.0, omega arith, each (λ c. Strictly q c.range → Strictly c.range b.range → ⊥) (λ i j. omega arith) o.2)

  -- after a block that is not kept
  ready_dropped :
      (free : ℕ) {x : Block} {bs : List Block} → Laminar (x ∷ bs) → (Strictly q x.range → free ≤ x.range.first → ⊥)
      → Ready q f free (x ∷ bs) → Ready q f free bs
  ready_dropped free {x} (cons {bs = bs} p before l) n r = record {
    clear = λ b m. r.clear b (Memᴰ.tail m);
    passes = λ b m. (
      λ t. let o = (r.passes b (Memᴰ.tail m)).0 t in (o.0, o.1, λ c k. o.2 c (Memᴰ.tail k)),
      λ h.
          let pb = is-proper l m in
          (r.passes b (Memᴰ.tail m)).1
          (h.0, h.1, each (λ c. Strictly q c.range → Strictly c.range b.range → ⊥) (λ i j. outside b pb h.1 i j (r.clear x (Memᴰ.head refl))) h.2),
    );
  }
    where
      outside :
          (b : Block) → Proper b.range → free ≤ b.range.first → Strictly q x.range → Strictly x.range b.range
          → (free ≤ x.range.first) ⊎ (x.range.last < free) → ⊥
      outside b pb k i j (inl h) = n i h
      outside b pb k i j (inr h) = omega arith

  pass : {bs : List Block} → Laminar bs → (free : ℕ) → Ready q f free bs → select f bs ≡ down_pass q free bs
  unfolding select
  pass empty free r = refl
  pass (cons {b = x} {bs = bs} p before l) free r = go (test (strictly_inside x.range q && leb free x.range.first)) (λ free r. pass l free r)
    where
      kept : T (strictly_inside x.range q && leb free x.range.first) → Strictly q x.range × (free ≤ x.range.first)
      kept t = let s = (T_and (strictly_inside x.range q) (leb free x.range.first)).0 t in ((inside-iff x.range q).0 s.0, leb→le free x.range.first s.1)

      alone : (c : Block) → Before x c → Strictly c.range x.range → ⊥
      alone c (around h g) s = omega arith
      alone c (left h g) s = omega arith

      go :
          T (strictly_inside x.range q && leb free x.range.first) ⊎ T (not (strictly_inside x.range q && leb free x.range.first))
          → ((free : ℕ) → Ready q f free bs → select f bs ≡ down_pass q free bs) → select f (x ∷ bs) ≡ down_pass q free (x ∷ bs)
      go (inl t) rest =
          let k = kept t in
          let fx : T (f x) = (r.passes x (Memᴰ.head refl)).1 (k.0, k.1, each (λ c. Strictly q c.range → Strictly c.range x.range → ⊥) (λ i j. omega arith) (λ c m i j. alone c (before c m) j)) in
          select_kept f x bs fx
          ∙ rw (is_true (strictly_inside x.range q && leb free x.range.first) t)
          (ap (λ (ns : List ℕ). x.number ∷ ns) (rest (suc x.range.last) (ready_kept free (cons p before l) k.1 k.0 r)))
      go (inr t) rest =
          let no-x : Strictly q x.range → free ≤ x.range.first → ⊥ = λ i j. T_not (strictly_inside x.range q && leb free x.range.first) t ((T_and (strictly_inside x.range q) (leb free x.range.first)).1 ((inside-iff x.range q).1 i, le→leb free x.range.first j)) in
          select-dropped f x bs (λ fx. let o = (r.passes x (Memᴰ.head refl)).0 fx in no-x o.0 o.1)
          ∙ rw (is_false (strictly_inside x.range q && leb free x.range.first) (T_not (strictly_inside x.range q && leb free x.range.first) t))
          (rest free (ready_dropped free (cons p before l) no-x r))

pub down-scan : (bs : List Block) → T (accepted bs) → (q : Range) → down bs q ≡ down_pass q 0 bs
unfolding down largest
down-scan bs t q =
    pass q (is_best strictly_covers (λ r. strictly_inside r q) bs) (accepted-laminar bs t) 0
    (record {
      clear = λ b m. inl (omega arith);
      passes = λ b m. (
        λ s. let o = (best_iff around-test (answers.within q) bs b).0 s in (o.has, omega arith, o.unbeaten),
        λ h. (best_iff around-test (answers.within q) bs b).1 (record { has = h.0; unbeaten = h.2 }),
      );
    })
