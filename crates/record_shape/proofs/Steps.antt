-- The steps of a reader of what ends with a record find the fields of a good one, and no others: 21 and 22, and in a block 20 to 23.
use mathlib.Core.Path.{◌≡◌, refl, sym, ◌∙◌, ap}
use mathlib.Core.Bool.{Bool, true, false, cond, ◌&&◌}
use mathlib.Core.List.{List, [], ◌∷◌}
use Prim.Native.Nat.{ℕ, ◌+◌, ◌-◌, ◌*◌, ◌≤◌, ◌<◌}
use borrow.Author.Tests.{le-leb, leb-true, eq-eqb, eqb-true}
use native.Mathlib.Omega.{arith}
use native.Mathlib.Nat.{le_trans}
use Rattle.std.specs.Prelude.{Option, Some, None}
use Rattle.std.proofs.lemmas.Option.{none-some, same_Some}
use lib.Dec.{leb, eqb}
use lib.ListN.{length}
use lib.Seq.{length-slice}
use Rattle.registry.specs.Tags.{width_of}
use Rattle.octets.specs.Lists.{within}
use Rattle.octets.proofs.Connectives.{and_left, and_right, within-high}
use Rattle.texts.specs.Host.{is_host_name}
use Rattle.texts.specs.Texts.{good_text, good_host}
use Rattle.fields.specs.Positions.{field_at, end_by, end_between}
use Rattle.fields.specs.Heads.{field-inside}
use Rattle.fields.specs.declared.Field.{Field}
use Rattle.records.specs.Record.{Record, good_name, good_texts, good_block, good_contents}
use Rattle.records.specs.Layout.{layout_of, parts_of, record_on, LaidOut}
use Rattle.records.specs.declared.Layout.{Layout}
use Rattle.records.proofs.Shapes.{no_block, a_block, Stands, stands, Texts, BlockFields, named-whole, named-fields, block-whole, block-fields, is}
use Rattle.record_shape.specs.Shaped.{Shaped}

module _ (s : List ℕ) (end tag at : ℕ) where
  -- the step to a field of low to high bytes finds it, and finds no other
  seek : (low high to : ℕ) → Stands s end tag at to → low ≤ to - (at + 3) → to - (at + 3) ≤ high → end_between low high tag (field_at s at end) ≡ Some to
  unfolding end_by
  seek low high to f l h = rw (f.found, eq-eqb tag tag refl, le-leb low _ l, le-leb _ high h)

  pub reached : (low high to : ℕ) → end_between low high tag (field_at s at end) ≡ Some to → Stands s end tag at to × (low ≤ to - (at + 3)) × (to - (at + 3) ≤ high)
  unfolding end_by
  reached low high to e = by_field (field_at s at end) refl e
    where
      by_tests : (f : Field) → field_at s at end ≡ Some f → (u v w : Bool) → eqb f.tag tag ≡ u → leb low (f.end - f.start) ≡ v → leb (f.end - f.start) high ≡ w
          → cond (u && (v && w)) (Some f.end) None ≡ Some to → Stands s end tag at to × (low ≤ to - (at + 3)) × (to - (at + 3) ≤ high)
      by_tests f x true true true g h i k =
          let j : f.end ≡ to = same_Some _ _ k in
          let z : at + 3 ≡ f.start = (field-inside s at end f x).after in
          (rw j at (stands s end tag at f x (eqb-true f.tag tag g)), omega (arith, leb-true low _ h), omega (arith, leb-true _ high i))
      by_tests f x true true false g h i k = absurd (none-some to k)
      by_tests f x true false w g h i k = absurd (none-some to k)
      by_tests f x false v w g h i k = absurd (none-some to k)

      by_field : (f : Option Field) → field_at s at end ≡ f → end_between low high tag f ≡ Some to → Stands s end tag at to × (low ≤ to - (at + 3)) × (to - (at + 3) ≤ high)
      by_field None x k = absurd (none-some to k)
      by_field (Some f) x k = by_tests f x (eqb f.tag tag) (leb low (f.end - f.start)) (leb (f.end - f.start) high) refl refl refl k

-- Steps to fields one after another up to the end: all find theirs, or one does not
pub record Sought : Type 0 where
  pub low : ℕ
  pub high : ℕ
  pub tag : ℕ

abbrev sought : Sought → List ℕ → ℕ → ℕ → Option ℕ
sought x s at end = end_between x.low x.high x.tag (field_at s at end)

data Goes (s : List ℕ) (end : ℕ) : ℕ → List Sought → Type 0 where
  done : Goes s end end []
  goes : {at to : ℕ} {x : Sought} {rest : List Sought} → sought x s at end ≡ Some to → Goes s end to rest → Goes s end at (x ∷ rest)

pub data Stops (s : List ℕ) (end : ℕ) : ℕ → List Sought → Type 0 where
  here : {at : ℕ} {x : Sought} {rest : List Sought} → sought x s at end ≡ None → Stops s end at (x ∷ rest)
  later : {at to : ℕ} {x : Sought} {rest : List Sought} → sought x s at end ≡ Some to → Stops s end to rest → Stops s end at (x ∷ rest)
  over : {at : ℕ} → (at ≡ end → ⊥) → Stops s end at []

not-both : (s : List ℕ) (end at : ℕ) (xs : List Sought) → Stops s end at xs → Goes s end at xs → ⊥
not-both s end at (x ∷ xs) (here e) (goes f g) = none-some _ (sym e ∙ f)
not-both s end at (x ∷ xs) (later {to = to} e o) (goes {to = other} f g) =
    let i : other ≡ to = same_Some _ _ (sym f ∙ e) in
    not-both s end to xs o (rw i at g)
not-both s end at [] (over n) done = n refl

-- a text of at most 255 bytes, and the fields of records
abbrev text : ℕ → Sought
text tag = record { low = 0; high = 255; tag = tag }

abbrev exactly : ℕ → ℕ → Sought
exactly size tag = record { low = size; high = size; tag = tag }

abbrev pub named_steps : List Sought
named_steps = text 0x21 ∷ text 0x22 ∷ []

abbrev pub status_steps : List Sought
status_steps = exactly 1 0x23 ∷ []

abbrev pub block_steps : ℕ → List Sought
block_steps size = exactly size 0x20 ∷ text 0x21 ∷ text 0x22 ∷ status_steps

-- field 23 is the last if it starts four bytes before the end, and only then
pub not_last : (s : List ℕ) (end at : ℕ) → at ≤ end → (end - at ≡ 4 → ⊥) → Stops s end at status_steps
not_last s end at h n = by_end (sought (exactly 1 0x23) s at end) refl
  where
    by_end : (e : Option ℕ) → sought (exactly 1 0x23) s at end ≡ e → Stops s end at status_steps
    by_end None e = here e
    by_end (Some to) e =
        let r = reached s end 0x23 at 1 1 to e in
        later e (over {at = to} (λ z. n (omega (arith, z, r.0.forward, r.1, r.2))))

-- a good record has texts of at most 255 bytes
short-name : (tag : ℕ) (s : List ℕ) → good_name tag s ≡ true → length s ≤ 255
unfolding good_name good_host good_text is_host_name
short-name tag s e = by-tag (within 0x13 0x14 tag) e
  where
    by-tag : (v : Bool) → cond v (good_host s) (good_text 0x20 s) ≡ true → length s ≤ 255
    by-tag true k = omega (arith, leb-true (length s) 253 (and_left _ _ (and_left _ _ k)))
    by-tag false k = omega (arith, within-high 1 64 (length s) (and_left _ _ k))

module _ (s : List ℕ) (l : Layout) (p : LaidOut (length s) l) (g : good_contents (record_on s l) ≡ true) where
  good-texts : good_texts (record_on s l) ≡ true
  unfolding good_contents
  good-texts = and_left (good_texts (record_on s l)) (good_block (record_on s l)) g

  short-texts : ((parts_of l).handle.end - (parts_of l).handle.start ≤ 255) × ((parts_of l).name.end - (parts_of l).name.start ≤ 255)
  unfolding good_text
  short-texts =
      let h = within-high 1 64 (length (record_on s l).handle) (and_left _ _ (and_left (good_text 0x21 (record_on s l).handle) (good_name l.tag (record_on s l).name) good-texts)) in
      let n = short-name l.tag (record_on s l).name (and_right (good_text 0x21 (record_on s l).handle) (good_name l.tag (record_on s l).name) good-texts) in (
        omega (arith, h, length-slice (parts_of l).handle.start (parts_of l).handle.end s p.handle.within),
        omega (arith, n, length-slice (parts_of l).name.start (parts_of l).name.end s p.name.within),
      )

by-contents : (r : Record) → (good_contents r ≡ true → ⊥) → good_contents r ≡ false
by-contents r n = by-test (good_contents r) refl
  where
    by-test : (v : Bool) → good_contents r ≡ v → v ≡ false
    by-test true e = absurd (n e)
    by-test false e = refl

module _ (s : List ℕ) (tag start end : ℕ) (p : start ≤ end) (q : end ≤ length s) where
  module _ (k : 18 < tag) where
    named-laid : (middle : ℕ) → Texts s end start end middle → LaidOut (length s) (layout_of tag start middle end)
    named-laid middle t = rw (no_block tag k) (record {
      known = omega arith;
      range = record { forward = omega arith; within = omega arith };
      handle = record { forward = t.handle.forward; within = omega (arith, t.handle.within) };
      name = record { forward = t.name.forward; within = q };
      status = record { forward = omega arith; within = omega arith };
      sizes = λ z. absurd (omega (arith, z));
      absent = λ z. (refl, refl);
    })

    -- the fields found by the steps
    pub named-shaped : (middle to : ℕ) → end_between 0 255 0x21 (field_at s start end) ≡ Some middle → end_between 0 255 0x22 (field_at s middle end) ≡ Some to → to ≡ end
        → Shaped s tag start end (Some (record { from = start + 3; middle = middle; to = to }))
    named-shaped middle to h n z =
        let t : Texts s end start end middle = record { handle = (reached s end 0x21 start 0 255 middle h).0; name = rw z at (reached s end 0x22 middle 0 255 to n).0 } in
        (named-whole s tag start end q (no_block tag k) middle t, record { laid = named-laid middle t; handle = rw (no_block tag k); name = rw (no_block tag k) z })

    -- a step that finds none refutes every good record
    pub named-refused : Stops s end start named_steps → Shaped s tag start end None
    named-refused o r e =
        let x = named-fields s tag start end q (no_block tag k) r p e in
        let m = x.at in
        let t = x.holds in
        by-contents r (λ g.
        let y = rw (no_block tag k) at (short-texts s (layout_of tag start m end) (named-laid m t) (ap good_contents (is s tag start end r e m (named-whole s tag start end q (no_block tag k) m t)) ∙ g)) in
        not-both s end start named_steps o
        (goes (seek s end 0x21 start 0 255 m t.handle (omega arith) y.0) (goes (seek s end 0x22 m 0 255 end t.name (omega arith) y.1) done)))

  module _ (k : 16 ≤ tag) (l : tag ≤ 18) (size : ℕ) (w : size ≡ 2 * width_of tag) where
    block-laid : (middle : ℕ) → BlockFields s size start end middle → LaidOut (length s) (layout_of tag start middle end)
    block-laid middle f =
        let t = f.texts in
        rw (a_block tag k l, ← w) (record {
          known = k;
          range = record { forward = omega arith; within = le_trans f.range.within q };
          handle = record { forward = omega (arith, t.handle.forward); within = omega (arith, t.handle.within) };
          name = record { forward = t.name.forward; within = omega arith };
          status = record { forward = omega arith; within = q };
          sizes = λ z. (omega arith, omega (arith, t.name.forward, f.status.forward));
          absent = λ z. absurd (omega (arith, z));
        })

    pub block-shaped : (at middle to last : ℕ) → end_between size size 0x20 (field_at s start end) ≡ Some at → end_between 0 255 0x21 (field_at s at end) ≡ Some middle
        → end_between 0 255 0x22 (field_at s middle end) ≡ Some to → end_between 1 1 0x23 (field_at s to end) ≡ Some last → end - to ≡ 4
        → Shaped s tag start end (Some (record { from = at + 3; middle = middle; to = to }))
    block-shaped at middle to last g h n u y =
        let a = reached s end 0x20 start size size at g in
        let b = reached s end 0x23 to 1 1 last u in
        let c : at ≡ start + 3 + size = omega (arith, a.0.forward, a.1, a.2) in
        let z : last ≡ end = omega (arith, y, b.0.forward, b.1, b.2) in
        let d : to ≡ end - 4 = omega (arith, z, b.0.forward, b.1, b.2) in
        let f : BlockFields s size start end middle = record {
          range = rw c at a.0;
          texts = record { handle = rw c at (reached s end 0x21 at 0 255 middle h).0; name = rw d at (reached s end 0x22 middle 0 255 to n).0 };
          status = rw (z, d) at b.0;
        } in
        let e : at + 3 ≡ start + 6 + size = omega arith in
        (block-whole s tag start end q (a_block tag k l) size w middle f, record { laid = block-laid middle f; handle = rw (a_block tag k l, ← w) e; name = rw (a_block tag k l) d })

    pub block_refused : Stops s end start (block_steps size) → Shaped s tag start end None
    block_refused o r e =
        let x = block-fields s tag start end q (a_block tag k l) size w r p e in
        let m = x.at in
        let b = x.holds in
        let t = b.texts in
        by-contents r (λ g.
        let y = rw (a_block tag k l, ← w) at
        (short-texts s (layout_of tag start m end) (block-laid m b) (ap good_contents (is s tag start end r e m (block-whole s tag start end q (a_block tag k l) size w m b)) ∙ g)) in
        not-both s end start (block_steps size) o
        (goes (seek s end 0x20 start size size (start + 3 + size) b.range (omega arith) (omega arith))
        (goes (seek s end 0x21 (start + 3 + size) 0 255 m t.handle (omega arith) (omega (arith, y.0)))
        (goes (seek s end 0x22 m 0 255 (end - 4) t.name (omega arith) y.1)
        (goes (seek s end 0x23 (end - 4) 1 1 end b.status (omega (arith, t.name.forward, b.status.forward)) (omega (arith, t.name.forward, b.status.forward))) done)))))
