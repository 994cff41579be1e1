-- The fields of a record, each passed whatever its length, end with it exactly if it is whole.
use mathlib.Core.Path.{◌≡◌, refl, sym, ◌∙◌}
use mathlib.Core.Bool.{Bool, true, false, cond, ◌&&◌}
use mathlib.Core.List.{List}
use Prim.Native.Nat.{ℕ, ◌+◌, ◌-◌, ◌*◌, ◌≤◌, ◌<◌}
use borrow.Author.Tests.{eq-eqb, ne_eqb, eqb-true}
use native.Mathlib.Omega.{arith}
use lib.Dec.{eqb}
use lib.ListN.{length}
use lib.Seq.{slice}
use Rattle.std.specs.Prelude.{Option, Some, None}
use Rattle.std.specs.Option.{option_eq}
use Rattle.std.proofs.lemmas.Option.{none-some, same_Some, option_and_then_some}
use Rattle.registry.specs.Tags.{width_of}
use Rattle.fields.specs.Positions.{field_at, end_by}
use Rattle.fields.specs.declared.Field.{Field}
use Rattle.records.specs.Record.{Parsed, whole, malformed, is_whole, record_of}
use Rattle.records.proofs.Shapes.{no_block, a_block, Stands, stands, not-whole, Texts, BlockFields, Somewhere, named-whole, named-fields, block-whole, block-fields}
use Rattle.record_defect.specs.Ends.{end_at, texts_end, status_end, block_end}

module _ (s : List ℕ) (end tag at : ℕ) where
  pub no-field : field_at s at end ≡ None → None ≡ end_at s end tag at
  unfolding end_by
  no-field e = rw e

  module _ (f : Field) (e : field_at s at end ≡ Some f) where
    pub other-field : (f.tag ≡ tag → ⊥) → None ≡ end_at s end tag at
    unfolding end_by
    other-field n = rw (e, ne_eqb f.tag tag n)

    pub field-ends : f.tag ≡ tag → Some f.end ≡ end_at s end tag at
    unfolding end_by
    field-ends n = rw (e, eq-eqb f.tag tag n)

  seek : (to : ℕ) → Stands s end tag at to → end_at s end tag at ≡ Some to
  unfolding end_by
  seek to f = rw (f.found, eq-eqb tag tag refl)

  pub reached : (to : ℕ) → end_at s end tag at ≡ Some to → Stands s end tag at to
  unfolding end_by
  reached to e = by_field (field_at s at end) refl e
    where
      by-tag : (f : Field) → field_at s at end ≡ Some f → (u : Bool) → eqb f.tag tag ≡ u → cond (u && true) (Some f.end) None ≡ Some to → Stands s end tag at to
      by-tag f x true h k = rw (same_Some _ _ k) at (stands s end tag at f x (eqb-true f.tag tag h))
      by-tag f x false h k = absurd (none-some to k)

      by_field : (f : Option Field) → field_at s at end ≡ f → end_by (λ n. true) tag f ≡ Some to → Stands s end tag at to
      by_field None x k = absurd (none-some to k)
      by_field (Some f) x k = by-tag f x (eqb f.tag tag) refl k

-- an end that is found if a test holds
tested : (t : Bool) (o : Option ℕ) (y : ℕ) → cond t o None ≡ Some y → (t ≡ true) × (o ≡ Some y)
tested true o y e = (refl, e)
tested false o y e = absurd (none-some y e)

module _ (s : List ℕ) (end at : ℕ) where
  texts-seek : (to middle : ℕ) → Texts s end at to middle → texts_end s end at ≡ Some to
  texts-seek to middle t = rw (seek s end 0x21 at middle t.handle) (seek s end 0x22 middle to t.name)

  texts-reached : (to : ℕ) → texts_end s end at ≡ Some to → Somewhere (Texts s end at to)
  texts-reached to e =
      option_and_then_some _ (end_at s end 0x21 at) to e
      (λ middle h n. record { at = middle; holds = record { handle = reached s end 0x21 at middle h; name = reached s end 0x22 middle to n } })

  status-reached : (to : ℕ) → status_end s end at ≡ Some to → Stands s end 0x23 at to × (to ≡ at + 4)
  status-reached to e =
      option_and_then_some _ (end_at s end 0x23 at) to e (λ last h n.
      let t = tested (eqb last (at + 4)) (Some last) to n in
      let i : last ≡ to = same_Some _ _ t.1 in
      (rw i at (reached s end 0x23 at last h), omega (arith, eqb-true _ _ t.0)))

-- the last field ends with the record if it is whole, and only then
module _ (end : ℕ) where
  ends : (o : Option ℕ) (r : Parsed) → ((q : _) → r ≡ whole q → o ≡ Some end) → (o ≡ Some end → r ≡ malformed → ⊥) → option_eq eqb o (Some end) ≡ is_whole r
  ends o (whole q) f n = rw (f q refl) (eq-eqb end end refl)
  ends None malformed f n = refl
  ends (Some to) malformed f n = ne_eqb to end (λ e. n (rw e) refl)

module _ (s : List ℕ) (tag start end : ℕ) (p : start ≤ end) (q : end ≤ length s) where
  pub named-is : 18 < tag → option_eq eqb (texts_end s end start) (Some end) ≡ is_whole (record_of tag (slice start end s))
  named-is k =
      ends end (texts_end s end start) _
      (λ r e. let x = named-fields s tag start end q (no_block tag k) r p e in texts-seek s end start end x.at x.holds)
      (λ e m.
      let x = texts-reached s end start end e in
      not-whole _ (sym m ∙ named-whole s tag start end q (no_block tag k) x.at x.holds))

  module _ (k : 16 ≤ tag) (l : tag ≤ 18) where
    abbrev size : ℕ
    size = 2 * width_of tag

    block-seek : (middle : ℕ) → BlockFields s size start end middle → block_end s tag start end ≡ Some end
    block-seek middle f =
        let z : end ≡ end - 4 + 4 = omega (arith, f.texts.name.forward, f.status.forward) in
        rw (
          seek s end 0x20 start (start + 3 + size) f.range,
          eq-eqb (start + 3 + size) (start + 3 + size) refl,
          texts-seek s end (start + 3 + size) (end - 4) middle f.texts,
          seek s end 0x23 (end - 4) end f.status,
          eq-eqb end (end - 4 + 4) z,
        )

    block-reached : block_end s tag start end ≡ Some end → Somewhere (BlockFields s size start end)
    block-reached e =
        option_and_then_some _ (end_at s end 0x20 start) end e (λ at g x.
        let t = tested (eqb at (start + 3 + size)) _ end x in
        option_and_then_some _ (texts_end s end at) end t.1 (λ to h y.
        let b = status-reached s end to end y in
        let i : at ≡ start + 3 + size = eqb-true _ _ t.0 in
        let j : to ≡ end - 4 = omega (arith, b.1) in
        let m = texts-reached s end (start + 3 + size) (end - 4) (rw (i, j) at h) in
        record {
          at = m.at;
          holds = record {
            range = rw i at (reached s end 0x20 start at g);
            texts = m.holds;
            status = rw j at b.0;
          };
        }))

    pub block-is : option_eq eqb (block_end s tag start end) (Some end) ≡ is_whole (record_of tag (slice start end s))
    block-is =
        ends end (block_end s tag start end) _
        (λ r e. let x = block-fields s tag start end q (a_block tag k l) size refl r p e in block-seek x.at x.holds)
        (λ e m.
        let x = block-reached e in
        not-whole _ (sym m ∙ block-whole s tag start end q (a_block tag k l) size refl x.at x.holds))
