-- The walk over the children of block i: what the pass for a gap gives for the rest, from the first address that is free, is its answer.
use Prim.Native.Nat.{ℕ, suc, ◌+◌, ◌≤◌, ◌<◌, max, min}
use mathlib.Core.Bool.{Bool, true, false, cond}
use mathlib.Core.Path.{◌≡◌, sym, ap, ◌∙◌}
use mathlib.Core.List.{List}
use native.Mathlib.Omega.{arith}
use native.Mathlib.Numerals.{add-one}
use borrow.Author.Tests.{le-leb, lt-leb, lt-ltb, le-ltb}
use lib.Dec.{leb, ltb}
use lib.ListN.{drop, get_or}
use Rattle.registry.specs.Tags.{width_of}
use Rattle.address.specs.Ranges.{Range}
use Rattle.octets.specs.Positions.{number_in}
use Rattle.forest.specs.Scans.{gap_pass, gap_in}
use Rattle.forest.proofs.Laminar.{Laminar, accepted-laminar}
use Rattle.scans.specs.Standing.{blocks_in}
use Rattle.links.specs.Links.{Link}
use Rattle.bottom.specs.Testing.{Testable, range_at, leaves_from}
use Rattle.bottom.proofs.Gaps.{none_free, front, hop, end, child, inner-link}

-- at index j: the addresses from free to limit are left, and what the pass gives for the rest is the answer a
pub record Walking (s : List ℕ) (family i : ℕ) (a : Bool) (j e free limit : ℕ) : Type 0 where
  pub link : Link (blocks_in s family) i e
  pub ahead : i < j
  pub upto : j ≤ e
  pub enough : free ≤ limit
  pub left : gap_pass (range_at s family i) free limit (drop j (blocks_in s family)) ≡ a

module _ {s : List ℕ} {family : ℕ} {firsts links : List ℕ} {n i : ℕ} (r : Testable s family firsts links n i) where
  laminar : Laminar (blocks_in s family)
  laminar = accepted-laminar (blocks_in s family) r.gathered.nested

  link_at : (k : ℕ) → k < n → Link (blocks_in s family) k (get_or links k 0)
  link_at k h = r.linked k (omega arith) (omega (arith, r.gathered.counted))

  -- where the code reads the ends of block k, at the family's width
  module _ {width : ℕ} (e : width ≡ width_of family) where
    first-at : (k : ℕ) → k < n → number_in s (get_or firsts k 0) width ≡ (range_at s family k).first
    first-at k h = rw e (sym (ap (λ (x : Range). x.first) (r.gathered.ranges k h)))

    last-at : (k : ℕ) → k < n → number_in s (get_or firsts k 0 + width) width ≡ (range_at s family k).last
    last-at k h = rw e (sym (ap (λ (x : Range). x.last) (r.gathered.ranges k h)))

    -- free and limit are the first and the last address that block i and the range have
    pub whole : (q : Range) {free limit : ℕ} → free ≡ max q.first (number_in s (get_or firsts i 0) width) → limit ≡ min q.last (number_in s (get_or firsts i 0 + width) width)
        → leaves_from s family i free limit ≡ gap_in (blocks_in s family) q (range_at s family i)
    unfolding gap_in
    whole q f g = rw (f, g, first-at i r.known, last-at i r.known)

  pub walk_none : (free limit : ℕ) → limit < free → false ≡ leaves_from s family i free limit
  walk_none free limit h = sym (none_free (range_at s family i) limit (blocks_in s family) free h)

  pub walk_start : (free limit : ℕ) → free ≤ limit → Walking s family i (leaves_from s family i free limit) (i + 1) (get_or links i 0) free limit
  walk_start free limit k =
      let l = link_at i r.known in
      let a = l.ahead in
      record {
        link = l;
        ahead = omega arith;
        upto = omega arith;
        enough = k;
        left = rw (add-one i) (sym (front laminar i (omega (arith, r.known, r.gathered.counted)) free limit));
      }

  module _ {a : Bool} {j m free limit : ℕ} (w : Walking s family i a j m free limit) where
    enough-free : true ≡ leb free limit
    enough-free = sym (le-leb free limit w.enough)

    -- after the last child
    pub walk_end : m ≤ j → true ≡ a
    walk_end k =
        let z : j ≡ m = let y = w.upto in omega arith in
        enough-free ∙ sym (end laminar i m w.link free limit) ∙ (rw z at w.left)

    module _ (b : j < m) where
      pub child-known : j < n
      child-known = let y = w.link.upto in omega (arith, r.gathered.counted)

      turn : cond (ltb free (range_at s family j).first) (leb free limit)
          (cond (leb limit (range_at s family j).last) false (gap_pass (range_at s family i) (max free (suc (range_at s family j).last)) limit (drop (suc j) (blocks_in s family))))
          ≡ a
      turn = sym (child laminar i m w.link free limit j w.ahead b) ∙ w.left

      module _ {width : ℕ} (e : width ≡ width_of family) {first : ℕ} (f : first ≡ number_in s (get_or firsts j 0) width) where
        first-is : first ≡ (range_at s family j).first
        first-is = f ∙ first-at e j child-known

        -- it begins after what is free
        pub walk-gap : free < first → true ≡ a
        walk-gap h = enough-free ∙ (rw (lt-ltb free (range_at s family j).first (rw (← first-is) h)) at turn)

        -- it begins at what is free or before
        module _ (h : first ≤ free) {last : ℕ} (g : last ≡ number_in s (get_or firsts j 0 + width) width) where
          begins : ltb free (range_at s family j).first ≡ false
          begins = le-ltb free (range_at s family j).first (rw (← first-is) h)

          last-is : last ≡ (range_at s family j).last
          last-is = g ∙ last-at e j child-known

          -- and reaches the limit
          pub walk-over : limit ≤ last → false ≡ a
          walk-over k = rw (begins, le-leb limit (range_at s family j).last (rw (← last-is) k)) at turn

          pub walk-next : last < limit → {free' : ℕ} → free' ≡ max free (suc last) → Walking s family i a (get_or links j 0) m free' limit
          walk-next k c =
              let l = link_at j child-known in
              let x = l.ahead in
              let d = w.ahead in
              let o = w.enough in
              let below : (range_at s family j).last < limit = rw (← last-is) k in
              record {
                link = w.link;
                ahead = omega arith;
                upto = inner-link laminar i m w.link 0 0 j w.ahead b (get_or links j 0) l;
                enough = omega arith;
                left = rw (c, last-is)
                    (sym (hop laminar (max free (suc (range_at s family j).last)) limit (range_at s family i) j (get_or links j 0) l (omega arith) below)
                    ∙ (rw (begins, lt-leb limit (range_at s family j).last below) at turn));
              }
