-- The fields of a record, as a reader of what ends with it finds them one after another, are its parse. A record that is no block has fields 21 and 22, a block 20 to 23.
use mathlib.Core.Path.{◌≡◌, refl, ◌∙◌}
use mathlib.Core.Bool.{Bool, true, false, cond, ◌&&◌}
use mathlib.Core.List.{List, [], ◌∷◌}
use Prim.Native.Nat.{ℕ, ◌+◌, ◌-◌, ◌*◌, ◌≤◌, ◌<◌}
use borrow.Author.Tests.{le-leb, lt-leb, eq-eqb, eqb-true}
use native.Mathlib.Omega.{arith}
use native.Mathlib.Nat.{le_trans}
use Rattle.std.specs.Prelude.{Option, Some, None}
use lib.Dec.{eqb}
use lib.ListN.{length}
use lib.Seq.{slice, slice_empty, length-slice}
use Rattle.registry.specs.Tags.{is_block, width_of}
use Rattle.fields.specs.Positions.{field_at, field_of, head_at}
use Rattle.fields.specs.Heads.{head-slice, field-inside}
use Rattle.fields.specs.declared.Field.{Field}
use Rattle.records.specs.Record.{Record, Parsed, whole, malformed, following, starting, ending, record_of}
use Rattle.records.specs.Layout.{layout_of, record_on}

pub no_block : (tag : ℕ) → 18 < tag → is_block tag ≡ false
no_block tag h = rw (le-leb 0x10 tag (omega arith), lt-leb tag 0x12 h)

pub a_block : (tag : ℕ) → 16 ≤ tag → tag ≤ 18 → is_block tag ≡ true
a_block tag h k = rw (le-leb 0x10 tag h, le-leb tag 0x12 k)

-- a field of the tag stands at a position of what ends at `end`, and ends at `to`
pub record Stands (s : List ℕ) (end tag at to : ℕ) : Type 0 where
  pub found : field_at s at end ≡ Some (field_of tag (at + 3) to)
  pub forward : at + 3 ≤ to
  pub within : to ≤ end

module _ (s : List ℕ) (end tag at : ℕ) where
  pub stands : (f : Field) → field_at s at end ≡ Some f → f.tag ≡ tag → Stands s end tag at f.end
  stands f e h =
      let i = field-inside s at end f e in
      let x : f ≡ field_of tag (at + 3) f.end = rw (i.after, ← h) in
      record { found = rw x at e; forward = omega arith; within = i.within }

  step : end ≤ length s → (to : ℕ) → Stands s end tag at to → (next : List ℕ → List ℕ → Parsed)
      → starting tag (slice at end s) next ≡ next (slice (at + 3) to s) (slice to end s)
  step q to f next = rw (← head-slice s at end (omega (arith, f.forward, f.within)) q, f.found, eq-eqb tag tag refl)

pub not-whole : (r : Record) → malformed ≡ whole r → ⊥
not-whole r e = let z : ◌≡◌ {A = ℕ} 0 1 = cc in omega arith

-- a field that is read stands there, and the rest is read on
record Started (s : List ℕ) (at end tag : ℕ) (next : List ℕ → List ℕ → Parsed) (r : Record) : Type 0 where
  to : ℕ
  here : Stands s end tag at to
  onward : next (slice (at + 3) to s) (slice to end s) ≡ whole r

module _ (s : List ℕ) (end : ℕ) (q : end ≤ length s) (r : Record) where
  started : (at tag : ℕ) (next : List ℕ → List ℕ → Parsed) → at ≤ end → starting tag (slice at end s) next ≡ whole r → Started s at end tag next r
  started at tag next p e = by_field (field_at s at end) refl (rw (← head-slice s at end p q) at e)
    where
      by-tag : (f : Field) → field_at s at end ≡ Some f → (u : Bool) → eqb f.tag tag ≡ u
          → cond u (next (slice f.start f.end s) (slice f.end end s)) malformed ≡ whole r → Started s at end tag next r
      by-tag f x true h k =
          let z : at + 3 ≡ f.start = (field-inside s at end f x).after in
          record { to = f.end; here = stands s end tag at f x (eqb-true f.tag tag h); onward = rw z k }
      by-tag f x false h k = absurd (not-whole r k)

      by_field : (f : Option Field) → field_at s at end ≡ f → following (head_at s end f) tag next ≡ whole r → Started s at end tag next r
      by_field None x k = absurd (not-whole r k)
      by_field (Some f) x k = by-tag f x (eqb f.tag tag) refl k

-- nothing comes after the last field
ends : (s : List ℕ) (end : ℕ) (p : Parsed) → ending (slice end end s) p ≡ p
ends s end p = rw (slice_empty end s)

none_left : (rest : List ℕ) (p : Parsed) (r : Record) → ending rest p ≡ whole r → (length rest ≡ 0) × (p ≡ whole r)
none_left [] p r e = (refl, e)
none_left (b ∷ rest) p r e = absurd (not-whole r e)

module _ (s : List ℕ) (end : ℕ) (q : end ≤ length s) (r : Record) where
  ended : (at : ℕ) (p : Parsed) → at ≤ end → ending (slice at end s) p ≡ whole r → (at ≡ end) × (p ≡ whole r)
  ended at p h e =
      let z = none_left (slice at end s) p r e in
      (omega (arith, z.0, length-slice at end s q), z.1)

-- the steps of the definition of a record that is no block, and of a block
abbrev named_record : ℕ → List ℕ → List ℕ → Record
named_record tag handle name = record { tag = tag; range = []; handle = handle; name = name; status = [] }

abbrev named_2 : ℕ → List ℕ → List ℕ → List ℕ → Parsed
named_2 tag handle name rest = ending rest (whole (named_record tag handle name))

abbrev named_1 : ℕ → List ℕ → List ℕ → Parsed
named_1 tag handle rest = starting 0x22 rest (named_2 tag handle)

abbrev block_record : ℕ → List ℕ → List ℕ → List ℕ → List ℕ → Record
block_record tag range handle name status = record { tag = tag; range = range; handle = handle; name = name; status = status }

abbrev block_4 : ℕ → List ℕ → List ℕ → List ℕ → List ℕ → List ℕ → Parsed
block_4 tag range handle name status rest =
    ending rest (cond (eqb (length range) (2 * width_of tag) && eqb (length status) 1) (whole (block_record tag range handle name status)) malformed)

abbrev block_3 : ℕ → List ℕ → List ℕ → List ℕ → List ℕ → Parsed
block_3 tag range handle name rest = starting 0x23 rest (block_4 tag range handle name)

abbrev block_2 : ℕ → List ℕ → List ℕ → List ℕ → Parsed
block_2 tag range handle rest = starting 0x22 rest (block_3 tag range handle)

abbrev block_1 : ℕ → List ℕ → List ℕ → Parsed
block_1 tag range rest = starting 0x21 rest (block_2 tag range)

sized : (size one : ℕ) (n m : ℕ) (q r : Record) → cond (eqb n size && eqb m one) (whole q) malformed ≡ whole r → (n ≡ size) × (m ≡ one)
sized size one n m q r e = by_tests (eqb n size) (eqb m one) refl refl e
  where
    by_tests : (u v : Bool) → eqb n size ≡ u → eqb m one ≡ v → cond (u && v) (whole q) malformed ≡ whole r → (n ≡ size) × (m ≡ one)
    by_tests true true x y k = (eqb-true n size x, eqb-true m one y)
    by_tests true false x y k = absurd (not-whole r k)
    by_tests false v x y k = absurd (not-whole r k)

-- fields 21 and 22, of which the first starts at a position and the other ends at `to`
pub record Texts (s : List ℕ) (end start to middle : ℕ) : Type 0 where
  pub handle : Stands s end 0x21 start middle
  pub name : Stands s end 0x22 middle to

-- field 20 of `size` bytes, fields 21 and 22, and field 23 of one byte
pub record BlockFields (s : List ℕ) (size start end middle : ℕ) : Type 0 where
  pub range : Stands s end 0x20 start (start + 3 + size)
  pub texts : Texts s end (start + 3 + size) (end - 4) middle
  pub status : Stands s end 0x23 (end - 4) end

-- field 22 at some position
pub record Somewhere (P : ℕ → Type 0) : Type 0 where
  pub at : ℕ
  pub holds : P at

module _ (s : List ℕ) (tag start end : ℕ) (q : end ≤ length s) where
  module _ (b : is_block tag ≡ false) where
    pub named-whole : (middle : ℕ) → Texts s end start end middle → record_of tag (slice start end s) ≡ whole (record_on s (layout_of tag start middle end))
    unfolding record_of
    named-whole middle t =
        rw (b, slice_empty start s) (step s end 0x21 start q middle t.handle _ ∙ step s end 0x22 middle q end t.name _ ∙ ends s end _)

    pub named-fields : (r : Record) → start ≤ end → record_of tag (slice start end s) ≡ whole r → Somewhere (Texts s end start end)
    unfolding record_of
    named-fields r p e = from-handle (started s end q r start 0x21 (named_1 tag) p (rw b at e))
      where
        from-name : (h : Started s start end 0x21 (named_1 tag) r)
            → Started s h.to end 0x22 (named_2 tag (slice (start + 3) h.to s)) r → Somewhere (Texts s end start end)
        from-name h n =
            let z : n.to ≡ end = (ended s end q r n.to _ n.here.within n.onward).0 in
            record { at = h.to; holds = record { handle = h.here; name = rw z at n.here } }

        from-handle : Started s start end 0x21 (named_1 tag) r → Somewhere (Texts s end start end)
        from-handle h = from-name h (started s end q r h.to 0x22 _ h.here.within h.onward)

  module _ (b : is_block tag ≡ true) (size : ℕ) (w : size ≡ 2 * width_of tag) where
    pub block-whole : (middle : ℕ) → BlockFields s size start end middle → record_of tag (slice start end s) ≡ whole (record_on s (layout_of tag start middle end))
    unfolding record_of
    block-whole middle f =
        let t = f.texts in
        let a : start + 3 + size + 3 ≡ start + 6 + size = omega arith in
        let c : end - 4 + 3 ≡ end - 1 = omega (arith, t.name.forward, f.status.forward) in
        let d : length (slice (start + 3) (start + 3 + size) s) ≡ size = length-slice (start + 3) (start + 3 + size) s (le_trans f.range.within q) ∙ omega arith in
        let o : length (slice (end - 1) end s) ≡ 1 = length-slice (end - 1) end s q ∙ omega (arith, t.name.forward, f.status.forward) in
        rw (b, ← w)
        (step s end 0x20 start q (start + 3 + size) f.range _
        ∙ step s end 0x21 (start + 3 + size) q middle t.handle _
        ∙ step s end 0x22 middle q (end - 4) t.name _
        ∙ step s end 0x23 (end - 4) q end f.status _
        ∙ ends s end _
        ∙ rw (a, c, d, o, eq-eqb size size refl))

    pub block-fields : (r : Record) → start ≤ end → record_of tag (slice start end s) ≡ whole r → Somewhere (BlockFields s size start end)
    unfolding record_of
    block-fields r p e = from-range (started s end q r start 0x20 (block_1 tag) p (rw b at e))
      where
        from-status : (g : Started s start end 0x20 (block_1 tag) r) (h : Started s g.to end 0x21 (block_2 tag (slice (start + 3) g.to s)) r)
            (n : Started s h.to end 0x22 (block_3 tag (slice (start + 3) g.to s) (slice (g.to + 3) h.to s)) r)
            → Started s n.to end 0x23 (block_4 tag (slice (start + 3) g.to s) (slice (g.to + 3) h.to s) (slice (h.to + 3) n.to s)) r
            → Somewhere (BlockFields s size start end)
        from-status g h n t =
            let z = ended s end q r t.to _ t.here.within t.onward in
            let y = sized (2 * width_of tag) 1 (length (slice (start + 3) g.to s)) (length (slice (n.to + 3) t.to s)) _ r z.1 in
            let a : g.to ≡ start + 3 + size = omega (arith, y.0, w, g.here.forward, length-slice (start + 3) g.to s (le_trans g.here.within q)) in
            let d : t.to ≡ end = z.0 in
            let c : n.to ≡ end - 4 = omega (arith, y.1, d, t.here.forward, length-slice (n.to + 3) t.to s (le_trans t.here.within q)) in
            record {
              at = h.to;
              holds = record {
                range = rw a at g.here;
                texts = record { handle = rw a at h.here; name = rw c at n.here };
                status = rw (d, c) at t.here;
              };
            }

        from-name : (g : Started s start end 0x20 (block_1 tag) r) (h : Started s g.to end 0x21 (block_2 tag (slice (start + 3) g.to s)) r)
            → Started s h.to end 0x22 (block_3 tag (slice (start + 3) g.to s) (slice (g.to + 3) h.to s)) r → Somewhere (BlockFields s size start end)
        from-name g h n = from-status g h n (started s end q r n.to 0x23 _ n.here.within n.onward)

        from-handle : (g : Started s start end 0x20 (block_1 tag) r) → Started s g.to end 0x21 (block_2 tag (slice (start + 3) g.to s)) r
            → Somewhere (BlockFields s size start end)
        from-handle g h = from-name g h (started s end q r h.to 0x22 _ h.here.within h.onward)

        from-range : Started s start end 0x20 (block_1 tag) r → Somewhere (BlockFields s size start end)
        from-range g = from-handle g (started s end q r g.to 0x21 _ g.here.within g.onward)

-- a record has one parse
pub is : (s : List ℕ) (tag start end : ℕ) (r : Record) → record_of tag (slice start end s) ≡ whole r
    → (middle : ℕ) → record_of tag (slice start end s) ≡ whole (record_on s (layout_of tag start middle end)) → record_on s (layout_of tag start middle end) ≡ r
is s tag start end r e middle f = cc
