-- One change of a file, test by test.
use mathlib.Core.Path.{◌≡◌, refl, sym, ◌∙◌, ap}
use mathlib.Core.Bool.{Bool, true, false, cond, ◌&&◌, false≢true}
use mathlib.Core.List.{List, [], ◌∷◌, append-nil}
use Prim.Native.Nat.{ℕ, suc, ◌+◌, ◌-◌, ◌*◌, ◌≤◌, ◌<◌}
use native.Mathlib.Omega.{arith}
use borrow.Author.Tests.{le-leb, lt-leb, leb-true, eq-eqb, ne_eqb, eqb-true, eqb-false}
use lib.Dec.{leb, eqb}
use lib.ListN.{length, get_or, take, drop, length-take, length-drop}
use lib.Seq.{slice, take_all, slice-cons, length-slice}
use Rattle.std.specs.Prelude.{Option, Some, None}
use Rattle.octets.proofs.Connectives.{and_right}
use Rattle.registry.specs.Tags.{is_known, width_of}
use Rattle.address.specs.Ranges.{well_formed}
use Rattle.octets.specs.Positions.{number_in}
use Rattle.fields.specs.Field.{Head, field, short, head_of, size_of}
use Rattle.fields.specs.Positions.{field_at}
use Rattle.fields.specs.declared.Field.{Field}
use Rattle.texts.specs.Texts.{good_text, good_host}
use Rattle.records.specs.Record.{Record, good_name}
use Rattle.records.specs.Judge.{Judged, bad, good, judge}
use Rattle.records.proofs.Shapes.{no_block, a_block}
use Rattle.image.specs.Image.{sound, image_from}
use Rattle.image.specs.Part.{records_of}
use Rattle.image.specs.Checking.{verdict_of, numbers_in}
use Rattle.registry.specs.declared.Flaw.{Flaw}
use Rattle.std.specs.Prelude.{Result, Ok, Err}
use Rattle.std.specs.Result.{result_eq}
use Rattle.image.proofs.Soundness.{is-sound, counted, verdict_sound}
use Rattle.image.proofs.Walk.{from_end}
use Rattle.rows.specs.Entry.{entries_of, row_of}
use Rattle.rows.specs.Good.{AllGood, good-cons}
use Rattle.rows.proofs.Rows.{image-step, reads}
use Rattle.changes.specs.Limits.{most_changes}
use Rattle.changes.specs.Change as Changes
use Rattle.changes.specs.Change.{keyed, good_key, add_judged, add_of, change_of}
use Rattle.merged.specs.Held.{parsed_from, entry_of}
use Rattle.one_change.specs.Read.{Addition, Removal, Stated, ChangeAt}
use Rattle.one_change.specs.declared.Change.TheVariants.{Add, Remove}
use Rattle.std.specs.Prelude.{None}
use Rattle.std.specs.Bool.{then_some}
use Rattle.merged.proofs.Fields.{bytes_inside, head-short, head-whole}

-- Additions

only-one : (v : Result ℕ Flaw) → numbers_in v ≡ Ok 1 → v ≡ Ok 1
only-one (Ok count) e = cc
only-one (Err flaw) e = let z : ◌≡◌ {A = ℕ} 0 1 = cc in absurd (omega arith)

no_true : {A : Type 0} → false ≡ true → A
no_true e = absurd (false≢true e)

module _ (s : List ℕ) where
  -- the one record of a row of one
  by-good : (tag : ℕ) (contents : List ℕ) (r : Record) → head_of s ≡ field tag contents [] → judge [] tag contents ≡ good r → Addition s true
  unfolding parsed_from
  by-good tag contents r h k =
      let p : parsed_from s ≡ r = rw (h, k) in
      record { is = rw (h, k); whole = λ z. record { tag = tag; contents = contents; head = h; alone = k ∙ ap good (sym p) } }

  by-records : (records : List Record) → length records ≡ 1 → AllGood (entries_of records s) → row_of (entries_of records s) ≡ s → Addition s true
  unfolding entries_of row_of
  by-records [] h g e = absurd (omega arith)
  by-records (p ∷ r ∷ records) h g e = absurd (omega arith)
  by-records (r ∷ []) h (good-cons g rest) e =
      let all : take (size_of s) s ≡ s = sym (append-nil (take (size_of s) s)) ∙ e in
      by-good g.tag g.contents r (rw all at g.head) g.alone

  module _ (v : Result ℕ Flaw) (e : numbers_in v ≡ verdict_of (image_from 4096 [] s)) where
    add-one : v ≡ Ok 1 → Addition s true
    add-one f =
        let i = image_from 4096 [] s in
        let w = reads 4096 [] (records_of i) s (is-sound i 1 (verdict_sound e f)) in
        by-records w.later (sym (ap length w.all) ∙ counted i 1 (verdict_sound e f)) w.stand w.row

    add_none : (v ≡ Ok 1 → ⊥) → Addition s false
    add_none n = record { is = by-head (head_of s) refl; whole = no_true }
      where
        by-judged : (tag : ℕ) (contents : List ℕ) → head_of s ≡ field tag contents [] → (j : Judged) → judge [] tag contents ≡ j → add_judged s j ≡ Changes.malformed
        by-judged tag contents h (bad d) k = refl
        by-judged tag contents h (good r) k =
            let x : image_from 4096 [] s ≡ sound (r ∷ []) = image-step [] tag contents [] 4095 s h ∙ rw k (from_end (r ∷ []) 4095) in
            absurd (n (only-one v (e ∙ ap verdict_of x)))

        by-head : (h : Head) → head_of s ≡ h → add_of s h ≡ Changes.malformed
        by-head short x = refl
        by-head (field tag contents (b ∷ rest)) x = refl
        by-head (field tag contents []) x = by-judged tag contents x (judge [] tag contents) refl

  -- the comparison of the code
  pub add_judged_one : (same : Flaw → Flaw → Bool) (v : Result ℕ Flaw) → numbers_in v ≡ verdict_of (image_from 4096 [] s) → Addition s (result_eq eqb same v (Ok 1))
  add_judged_one same (Ok count) e = by_count (eqb count 1) refl
    where
      by_count : (t : Bool) → eqb count 1 ≡ t → Addition s t
      by_count true x = add-one (Ok count) e (ap (λ (n : ℕ). Ok n) (eqb-true count 1 x))
      by_count false x = add_none (Ok count) e (λ z. let k : count ≡ 1 = cc in eqb-false count 1 x k)
  add_judged_one same (Err flaw) e = add_none (Err flaw) e (λ z. let k : ◌≡◌ {A = ℕ} 0 1 = cc in omega arith)

-- Removals

and_left : (a b : Bool) → (a && b) ≡ true → a ≡ true
and_left true b e = refl
and_left false b e = e

key-sized : (tag : ℕ) (key : List ℕ) → 16 ≤ tag → tag ≤ 18 → good_key tag key ≡ true → length key ≡ 2 * width_of tag
unfolding good_key
key-sized tag key h k e = eqb-true (length key) (2 * width_of tag) (and_left _ _ (rw (a_block tag h k) at e))

pub remove-none : (s : List ℕ) → length s ≡ 0 → Removal s false
remove-none [] h = record { is = refl; some-tag = no_true; key = no_true }
remove-none (tag ∷ key) h = absurd (omega arith)

removal : (s : List ℕ) → 0 < length s → (t : Bool) → (is_known (get_or s 0 0) && good_key (get_or s 0 0) (drop 1 s)) ≡ t → Removal s t
removal [] h t e = absurd (omega arith)
removal (tag ∷ key) h false e = record { is = rw e; some-tag = no_true; key = no_true }
removal (tag ∷ key) h true e =
    let l : 16 ≤ tag = leb-true 16 tag (and_left _ (leb tag 21) (and_left _ (good_key tag key) e)) in
    record { is = rw e; some-tag = λ z. h; key = λ z. record { known = l; sized = λ k. key-sized tag key l k (and_right (is_known tag) _ e) } }

module _ (s : List ℕ) (h : 0 < length s) where
  pub remove-low : get_or s 0 0 < 16 → Removal s false
  remove-low k = removal s h false (rw (lt-leb 16 (get_or s 0 0) k))

  module _ (k : 16 ≤ get_or s 0 0) where
    pub remove-high : 21 < get_or s 0 0 → Removal s false
    remove-high l = removal s h false (rw (le-leb 16 (get_or s 0 0) k, lt-leb (get_or s 0 0) 21 l))

    pub remove-by : get_or s 0 0 ≤ 21 → (t : Bool) → t ≡ good_key (get_or s 0 0) (take (length s - 1) (drop 1 s)) → Removal s t
    remove-by l t e =
        let z : take (length s - 1) (drop 1 s) ≡ drop 1 s = take_all (length s - 1) (drop 1 s) (omega (arith, length-drop 1 s)) in
        removal s h t (rw (le-leb 16 (get_or s 0 0) k, le-leb (get_or s 0 0) 21 l) (sym (rw z at e)))

-- Keys

module _ (tag : ℕ) (key : List ℕ) where
  module _ (h : 16 ≤ tag) (k : tag ≤ 18) where
    pub key-length : (length key ≡ 2 * width_of tag → ⊥) → false ≡ good_key tag key
    unfolding good_key
    key-length n = rw (a_block tag h k, ne_eqb (length key) (2 * width_of tag) n)

    pub key-range : length key ≡ 2 * width_of tag → (t : Bool) → t ≡ leb (number_in key 0 (width_of tag)) (number_in key (width_of tag) (width_of tag)) → t ≡ good_key tag key
    unfolding good_key well_formed
    key-range e t f =
        let w : ℕ = width_of tag in
        let z : 0 + width_of tag ≡ width_of tag = omega arith in
        let y : take (width_of tag + width_of tag) key ≡ key = take_all (width_of tag + width_of tag) key (omega arith) in
        rw (a_block tag h k, eq-eqb (length key) (2 * width_of tag) e) (rw (z, y) at f)

  pub key-handle : 18 < tag → tag ≡ 21 → (t : Bool) → t ≡ good_text 0x21 key → t ≡ good_key tag key
  unfolding good_key
  key-handle h k t e = rw (no_block tag h, eq-eqb tag 21 k) e

  pub key-host : 18 < tag → tag ≤ 21 → (tag ≡ 21 → ⊥) → (t : Bool) → t ≡ good_host key → t ≡ good_key tag key
  unfolding good_key good_name
  key-host h l n t e = rw (no_block tag h, ne_eqb tag 21 n, le-leb 0x13 tag (omega arith), le-leb tag 0x14 (omega arith)) e

-- Changes

-- a part of a file is no longer than an image may be
pub part-short : (s : List ℕ) (a n : ℕ) → length s ≤ most_changes → length (take n (drop a s)) ≤ 262144
part-short s a n h = omega (arith, length-take n (drop a s), length-drop a s)

module _ (s : List ℕ) (at : ℕ) (l : at ≤ length s) (f : Option Field) (e : f ≡ field_at s at (length s)) where
  pub change-short : f ≡ None → ChangeAt s at None
  change-short g = rw (head-short s at f e l g)

  module _ (x : Field) (g : f ≡ Some x) where
    stated : (change : Changes.Change) → change_of x.tag (slice x.start x.end s) ≡ change → Stated s at x.start x.end change
    stated change y =
        let i = bytes_inside s at f e x g in
        record { tag = x.tag; head = head-whole s at f e x g; is = y; after = i.after; forward = i.forward; within = i.within }

    malformed-is : change_of x.tag (slice x.start x.end s) ≡ Changes.malformed → ChangeAt s at None
    malformed-is y = rw (head-whole s at f e x g) y

    pub change-other : (x.tag ≡ 48 → ⊥) → (x.tag ≡ 49 → ⊥) → ChangeAt s at None
    unfolding change_of
    change-other n m = malformed-is (rw (ne_eqb x.tag 48 n, ne_eqb x.tag 49 m))

    module _ (z : x.tag ≡ 48) where
      adds : (t : Bool) → Addition (slice x.start x.end s) t → change_of x.tag (slice x.start x.end s) ≡ cond t (Changes.add (entry_of (slice x.start x.end s))) Changes.malformed
      unfolding change_of
      adds t r = rw (eq-eqb x.tag 48 z) r.is

      pub change-add : (t : Bool) → Addition (slice x.start x.end s) t → ChangeAt s at (then_some t (Add x.start x.end))
      change-add true r = (stated _ (adds true r), r.whole refl)
      change-add false r = malformed-is (adds false r)

    module _ (z : x.tag ≡ 49) where
      removes : (t : Bool) → Removal (slice x.start x.end s) t
          → change_of x.tag (slice x.start x.end s) ≡ cond t (Changes.remove (keyed (get_or (slice x.start x.end s) 0 0) (drop 1 (slice x.start x.end s)))) Changes.malformed
      unfolding change_of
      removes t r = let n : x.tag ≡ 48 → ⊥ = λ y. absurd (omega arith) in rw (ne_eqb x.tag 48 n, eq-eqb x.tag 49 z) r.is

      pub change-remove : (t : Bool) → Removal (slice x.start x.end s) t → ChangeAt s at (then_some t (Remove x.start x.end))
      change-remove false r = malformed-is (removes false r)
      change-remove true r =
          let i = bytes_inside s at f e x g in
          let some : x.start < x.end = omega (arith, r.some-tag refl, length-slice x.start x.end s i.within, i.forward) in
          let c : slice x.start x.end s ≡ get_or s x.start 0 ∷ slice (suc x.start) x.end s = slice-cons x.start x.end s 0 some i.within in
          let d : suc x.start ≡ x.start + 1 = omega arith in
          let q : keyed (get_or (slice x.start x.end s) 0 0) (drop 1 (slice x.start x.end s)) ≡ keyed (get_or s x.start 0) (slice (x.start + 1) x.end s) = rw (c, d) in
          (stated _ (removes true r ∙ ap Changes.remove q), some, rw (c, d) at (r.key refl))
