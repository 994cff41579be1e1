-- The pass for a gap in block i, by index: blocks up to i and blocks past it do not count, and neither do the blocks inside a child that was passed.
use Prim.Native.Nat.{ℕ, zero, suc, ◌+◌, ◌-◌, ◌≤◌, ◌<◌, max}
use mathlib.Core.Bool.{Bool, true, false, cond}
use mathlib.Core.Path.{◌≡◌, refl, ◌∙◌}
use mathlib.Core.List.{List, [], ◌∷◌}
use native.Mathlib.Omega.{arith}
use native.Mathlib.Decide.{dec_le}
use borrow.Author.Tests.{le-ltb, lt-leb}
use lib.Dec.{leb, ltb}
use lib.ListN.{length, drop, length-drop}
use lib.Seq.{drop-cons, drop-drop, get_or-drop}
use Rattle.address.specs.Ranges.{Range, strictly_inside}
use Rattle.forest.specs.Blocks.{Block}
use Rattle.forest.specs.Scans.{gap_pass}
use Rattle.octets.proofs.Tests.{is_true, is_false}
use Rattle.address.proofs.Geometry.{Proper, Strictly, inside-iff}
use Rattle.forest.proofs.Laminar.{Laminar, empty, cons, Before, around, left}
use Rattle.links.specs.Links.{absent, nth, Link}
use Rattle.links.proofs.Indices.{nth-proper, nth-before, begins-inside}

outside : (c r : Range) → (Strictly r c → ⊥) → strictly_inside c r ≡ false
outside c r n = is_false (strictly_inside c r) (λ t. n ((inside-iff c r).0 t))

module _ (r : Range) (free limit : ℕ) where
  dropped : (c : Block) (bs : List Block) → (Strictly r c.range → ⊥) → gap_pass r free limit (c ∷ bs) ≡ gap_pass r free limit bs
  dropped c bs n = rw (outside c.range r n)

  -- blocks that begin after r
  past : (bs : List Block) → ((m : ℕ) → m < length bs → r.last < (nth bs m).range.first) → ((m : ℕ) → m < length bs → Proper (nth bs m).range) → gap_pass r free limit bs ≡ leb free limit
  past [] h p = refl
  past (c ∷ bs) h p =
      let a : r.last < c.range.first = h 0 (omega arith) in
      let b : c.range.first ≤ c.range.last = p 0 (omega arith) in
      dropped c bs (λ s. omega arith) ∙ past bs (λ m k. h (suc m) (omega arith)) (λ m k. p (suc m) (omega arith))

  -- blocks that end at v or before, where v is not free any more
  skipped : (v : ℕ) → v < free → v < limit → (k : ℕ) (bs : List Block)
      → ((m : ℕ) → m < k → m < length bs → (nth bs m).range.last ≤ v) → ((m : ℕ) → m < length bs → Proper (nth bs m).range)
      → gap_pass r free limit bs ≡ gap_pass r free limit (drop k bs)
  skipped v f g zero bs h p = refl
  skipped v f g (suc k) [] h p = refl
  skipped v f g (suc k) (c ∷ bs) h p =
      let a : c.range.last ≤ v = h 0 (omega arith) (omega arith) in
      let b : c.range.first ≤ c.range.last = p 0 (omega arith) in
      go a b (strictly_inside c.range r) refl (skipped v f g k bs (λ m i j. h (suc m) (omega arith) (omega arith)) (λ m i. p (suc m) (omega arith)))
    where
      go : c.range.last ≤ v → c.range.first ≤ c.range.last → (t : Bool) → strictly_inside c.range r ≡ t
          → gap_pass r free limit bs ≡ gap_pass r free limit (drop k bs) → gap_pass r free limit (c ∷ bs) ≡ gap_pass r free limit (drop k bs)
      go a b true e rest =
          let m : max free (suc c.range.last) ≡ free = omega arith in
          rw (e, le-ltb free c.range.first (omega arith), lt-leb limit c.range.last (omega arith), m) rest
      go a b false e rest = rw e rest

-- nothing is free
pub none_free : (r : Range) (limit : ℕ) (bs : List Block) (free : ℕ) → limit < free → gap_pass r free limit bs ≡ false
none_free r limit [] free h = lt-leb free limit h
none_free r limit (c ∷ bs) free h = go (strictly_inside c.range r) (ltb free c.range.first) (leb limit c.range.last) (λ g k. none_free r limit bs g k)
  where
    go : (t u v : Bool) → ((g : ℕ) → limit < g → gap_pass r g limit bs ≡ false)
        → cond t (cond u (leb free limit) (cond v false (gap_pass r (max free (suc c.range.last)) limit bs))) (gap_pass r free limit bs) ≡ false
    go true true v rest = lt-leb free limit h
    go true false true rest = refl
    go true false false rest = rest (max free (suc c.range.last)) (omega arith)
    go false u v rest = rest free h

-- blocks before block i, and block i itself
pub front : {bs : List Block} → Laminar bs → (i : ℕ) → i < length bs → (free limit : ℕ)
    → gap_pass (nth bs i).range free limit bs ≡ gap_pass (nth bs i).range free limit (drop (suc i) bs)
front empty i h free limit = absurd (omega (arith, h))
front (cons {b = b} {bs = bs} p f l) zero h free limit = dropped b.range free limit b bs (λ s. omega arith)
front (cons {b = b} {bs = bs} p f l) (suc i) h free limit =
    dropped (nth bs i).range free limit b bs (λ s. around_or_left (nth-before (cons p f l) 0 (suc i) (omega arith) h) s)
    ∙ front l i (omega (arith, h)) free limit
  where
    around_or_left : Before b (nth bs i) → Strictly (nth bs i).range b.range → ⊥
    around_or_left (around n a) s = omega arith
    around_or_left (left n a) s = omega (arith, p)

module _ {bs : List Block} (l : Laminar bs) where
  proper-from : (k m : ℕ) → m < length (drop k bs) → Proper (nth (drop k bs) m).range
  proper-from k m h = rw (get_or-drop k bs m absent) (nth-proper l (k + m) (omega (arith, length-drop k bs)))

  module _ (free limit : ℕ) (r : Range) where
    -- past a child all that lies inside it is passed too
    pub hop : (j k : ℕ) → Link bs j k → (nth bs j).range.last < free → (nth bs j).range.last < limit
        → gap_pass r free limit (drop (suc j) bs) ≡ gap_pass r free limit (drop k bs)
    hop j k n f g =
        let a = n.ahead in
        let e : suc j + (k - suc j) ≡ k = omega arith in
        skipped r free limit (nth bs j).range.last f g (k - suc j) (drop (suc j) bs)
        (λ m x y. rw (get_or-drop (suc j) bs m absent) (n.inner (suc j + m) (omega arith) (omega arith))) (proper-from (suc j))
        ∙ rw (drop-drop (k - suc j) (suc j) bs, e)

  module _ (i e : ℕ) (n : Link bs i e) (free limit : ℕ) where
    -- after the last block inside block i
    pub end : gap_pass (nth bs i).range free limit (drop e bs) ≡ leb free limit
    end =
        past (nth bs i).range free limit (drop e bs)
        (λ m h. rw (get_or-drop e bs m absent) (n.past (e + m) (omega arith) (omega (arith, length-drop e bs)))) (proper-from e)

    module _ (j : ℕ) (a : i < j) (b : j < e) where
      child-inside : Strictly (nth bs i).range (nth bs j).range
      child-inside =
          let h = n.inner j a b in
          let k = n.upto in
          let p = nth-proper l j (omega arith) in
          begins-inside l i j a (omega arith) (omega arith)

      -- at a block inside block i
      pub child : gap_pass (nth bs i).range free limit (drop j bs)
          ≡ cond (ltb free (nth bs j).range.first) (leb free limit)
          (cond (leb limit (nth bs j).range.last) false (gap_pass (nth bs i).range (max free (suc (nth bs j).range.last)) limit (drop (suc j) bs)))
      child =
          let k = n.upto in
          let m : j < length bs = omega arith in
          rw (drop-cons bs j absent m, is_true (strictly_inside (nth bs j).range (nth bs i).range) ((inside-iff (nth bs j).range (nth bs i).range).1 child-inside))

      -- what lies inside a child lies inside block i
      pub inner-link : (k : ℕ) → Link bs j k → k ≤ e
      inner-link k m = go (dec_le k e)
        where
          go : Dec (k ≤ e) → k ≤ e
          go (yes h) = h
          go (no h) =
              let u = m.upto in
              let x = m.inner e b (omega arith) in
              let y = n.inner j a b in
              let z = n.past e (omega arith) (omega arith) in
              let p = nth-proper l e (omega arith) in
              absurd (omega arith)
