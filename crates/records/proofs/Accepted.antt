-- What is known of a record that was judged good: by cases on the tests of the judgement, all of which it passed.
use mathlib.Core.Path.{◌≡◌, refl}
use mathlib.Core.Bool.{Bool, true, false, cond, ◌&&◌, ◌||◌, false≢true}
use mathlib.Core.List.{List}
use Prim.Native.Nat.{ℕ, ◌≤◌}
use borrow.Author.Tests.{leb-true, ltb-true, eqb-true}
use native.Mathlib.Omega.{arith}
use native.Mathlib.Nat.{le_of_lt}
use lib.Dec.{leb, ltb, eqb}
use Rattle.registry.specs.Tags.{is_block}
use Rattle.octets.specs.Number.{value}
use Rattle.octets.proofs.Connectives.{and_right}
use Rattle.address.specs.Ranges.{well_formed, sorts_after}
use Rattle.texts.specs.Texts.{good_text}
use Rattle.records.specs.Record.{Record, Parsed, whole, malformed, record_of, first_of, last_of, good_name, good_contents, sorted_after, follows}
use Rattle.records.specs.Judge.{Judged, bad, good, judge_parsed, judge_alone, judge_overlap, in_order, crosses_any}

-- without defects 3 to 6 after the earlier records, the latest first
pub record Accepted (earlier : List Record) (tag : ℕ) (contents : List ℕ) (r : Record) : Type 0 where
  pub low : 16 ≤ tag
  pub high : tag ≤ 21
  pub parsed : record_of tag contents ≡ whole r
  pub good-contents : good_contents r ≡ true
  pub ordered : in_order earlier r ≡ true

record FromParsed (earlier : List Record) (p : Parsed) (r : Record) : Type 0 where
  is_whole : p ≡ whole r
  has-contents : good_contents r ≡ true
  in_order_lem : in_order earlier r ≡ true

parsed-good : (earlier : List Record) (p : Parsed) (r : Record) → judge_parsed earlier p ≡ good r → FromParsed earlier p r
parsed-good earlier malformed r e = let z : ◌≡◌ {A = ℕ} 0 1 = cc in absurd (omega arith)
parsed-good earlier (whole q) r e = by_tests (good_contents q) (in_order earlier q) refl refl e
  where
    by_tests : (u v : Bool) → good_contents q ≡ u → in_order earlier q ≡ v → cond u (cond v (good q) (bad 6)) (bad 5) ≡ good r → FromParsed earlier (whole q) r
    by_tests true true x y k = let f : q ≡ r = cc in record { is_whole = (rw f); has-contents = (rw f at x); in_order_lem = (rw f at y) }
    by_tests true false x y k = let z : ◌≡◌ {A = ℕ} 0 1 = cc in absurd (omega arith)
    by_tests false v x y k = let z : ◌≡◌ {A = ℕ} 0 1 = cc in absurd (omega arith)

pub alone-good : (earlier : List Record) (tag : ℕ) (contents : List ℕ) (r : Record) → judge_alone earlier tag contents ≡ good r → Accepted earlier tag contents r
unfolding judge_alone
alone-good earlier tag contents r e = by-tag (leb 0x10 tag) (leb tag 0x15) refl refl e
  where
    by-tag : (t u : Bool) → leb 0x10 tag ≡ t → leb tag 0x15 ≡ u → cond (t && u) (judge_parsed earlier (record_of tag contents)) (bad 3) ≡ good r
        → Accepted earlier tag contents r
    by-tag true true x y z =
        let k = parsed-good earlier (record_of tag contents) r z in
        record { low = leb-true _ _ x; high = leb-true _ _ y; parsed = k.is_whole; good-contents = k.has-contents; ordered = k.in_order_lem }
    by-tag true false x y z = let k : ◌≡◌ {A = ℕ} 0 1 = cc in absurd (omega arith)
    by-tag false u x y z = let k : ◌≡◌ {A = ℕ} 0 1 = cc in absurd (omega arith)

-- without defect 7 too
pub overlap_good : (earlier : List Record) (j : Judged) (r : Record) → judge_overlap earlier j ≡ good r → (j ≡ good r) × (crosses_any earlier r ≡ false)
overlap_good earlier (bad d) r e = let z : ◌≡◌ {A = ℕ} 0 1 = cc in absurd (omega arith)
overlap_good earlier (good q) r e = by-test (crosses_any earlier q) refl e
  where
    by-test : (t : Bool) → crosses_any earlier q ≡ t → cond t (bad 7) (good q) ≡ good r → (good q ≡ good r) × (crosses_any earlier r ≡ false)
    by-test true x z = let y : ◌≡◌ {A = ℕ} 0 1 = cc in absurd (omega arith)
    by-test false x z = let f : q ≡ r = cc in (z, (rw f at x))

-- defect 5: first not above last
pub first-last : (r : Record) → good_contents r ≡ true → first_of r ≤ last_of r
unfolding good_contents well_formed
first-last r e = leb-true _ _ (and_right (leb (value r.status) 1) _ (and_right (good_text 0x21 r.handle && good_name r.tag r.name) _ e))

-- what follows a record has no lower tag, and a block of its tag does not start before it
pub record After (before bound : ℕ) (r : Record) : Type 0 where
  pub tags : before ≤ r.tag
  pub firsts : before ≡ r.tag → is_block r.tag ≡ true → bound ≤ first_of r

pub follows-after : (p r : Record) → follows p r ≡ true → After p.tag (first_of p) r
unfolding follows sorted_after sorts_after
follows-after p r e = by-tag (ltb p.tag r.tag) (eqb p.tag r.tag) refl refl e
  where
    range-first : (fp fr : ℕ) (b : Bool) → (ltb fp fr || (eqb fp fr && b)) ≡ true → fp ≤ fr
    range-first fp fr b k = by-range (ltb fp fr) (eqb fp fr) refl refl k
      where
        by-range : (u v : Bool) → ltb fp fr ≡ u → eqb fp fr ≡ v → (u || (v && b)) ≡ true → fp ≤ fr
        by-range true v x y z = le_of_lt (ltb-true fp fr x)
        by-range false true x y z = let f : fp ≡ fr = eqb-true fp fr y in omega arith
        by-range false false x y z = absurd (false≢true z)

    by-tag : (u v : Bool) → ltb p.tag r.tag ≡ u → eqb p.tag r.tag ≡ v → (u || (v && sorted_after p r)) ≡ true → After p.tag (first_of p) r
    by-tag true v x y k = record { tags = le_of_lt (ltb-true _ _ x); firsts = λ z w. absurd (omega (arith, ltb-true p.tag r.tag x, z)) }
    by-tag false true x y k =
        let f : p.tag ≡ r.tag = eqb-true _ _ y in
        record { tags = omega arith; firsts = λ z w. range-first _ _ _ (rw w at k) }
    by-tag false false x y k = absurd (false≢true k)
