-- A record that parses, by positions: a reader that passes its fields finds its range, its handle and its name.
use mathlib.Core.Path.{◌≡◌, refl, sym, ◌∙◌, ap}
use mathlib.Core.Bool.{Bool, true, false, false≢true}
use mathlib.Core.List.{List}
use Prim.Native.Nat.{ℕ, suc, ◌+◌, ◌-◌, ◌*◌, ◌≤◌}
use native.Mathlib.Omega.{arith}
use lib.ListN.{length}
use lib.Seq.{slice, slice_empty}
use Rattle.registry.specs.Tags.{is_block, width_of}
use Rattle.fields.specs.Positions.{passed}
use Rattle.records.specs.Record.{Record, whole, record_of}
use Rattle.records.specs.Positions.{bytes_of, Inside, inner_span, range_span, handle_span, name_span}
use Rattle.records.specs.Layout.{span_from_to, layout_of, record_on}
use Rattle.records.proofs.Shapes.{Stands, Texts, BlockFields, is, named-whole, named-fields, block-whole, block-fields}

-- where the parts of a record of the tag are, whose contents go from start up to end
pub record Laid (s : List ℕ) (tag start end : ℕ) (r : Record) : Type 0 where
  pub own-tag : r.tag ≡ tag
  pub range_inside : is_block tag ≡ true → start + 3 + 2 * width_of tag ≤ end
  pub range : is_block tag ≡ true → slice (start + 3) (start + 3 + 2 * width_of tag) s ≡ r.range
  pub range_span_lem : bytes_of s (range_span s tag start end) ≡ r.range
  pub range_span_inside : Inside end (range_span s tag start end)
  pub handle : bytes_of s (handle_span s tag start end) ≡ r.handle
  pub handle-inside : Inside end (handle_span s tag start end)
  pub name : bytes_of s (name_span s tag start end) ≡ r.name
  pub name-inside : Inside end (name_span s tag start end)

-- a reader passes a field that stands, and finds one
module _ (s : List ℕ) (end tag at to : ℕ) (f : Stands s end tag at to) where
  pass-one : (n : ℕ) → passed s (suc n) at end ≡ passed s n to end
  unfolding passed
  pass-one n = rw f.found

  span_at : (start n : ℕ) → passed s n start end ≡ at → inner_span s start end n ≡ span_from_to (at + 3) to
  span_at start n e = rw (e, f.found)

module _ (s : List ℕ) (tag start end : ℕ) (r : Record) (p : start ≤ end) (q : end ≤ length s) (e : record_of tag (slice start end s) ≡ whole r) where
  module _ (b : is_block tag ≡ false) (middle : ℕ) (t : Texts s end start end middle) where
    is-named : record_on s (layout_of tag start middle end) ≡ r
    is-named = is s tag start end r e middle (named-whole s tag start end q b middle t)

    by-named : Laid s tag start end r
    unfolding range_span handle_span name_span passed
    by-named =
        let h : inner_span s start end 0 ≡ span_from_to (start + 3) middle = span_at s end 0x21 start middle t.handle start 0 refl in
        let n : inner_span s start end 1 ≡ span_from_to (middle + 3) end = span_at s end 0x22 middle end t.name start 1 (pass-one s end 0x21 start middle t.handle 0) in
        record {
          own-tag = sym (ap (λ (z : Record). z.tag) is-named);
          range_inside = λ z. absurd (false≢true (sym b ∙ z));
          range = λ z. absurd (false≢true (sym b ∙ z));
          range_span_lem = rw b (slice_empty 0 s ∙ sym (slice_empty start s) ∙ rw b at (ap (λ (z : Record). z.range) is-named));
          range_span_inside = rw b (record { forward = omega arith; within = omega arith });
          handle = rw (b, h) (rw b at (ap (λ (z : Record). z.handle) is-named));
          handle-inside = rw (b, h) (record { forward = t.handle.forward; within = t.handle.within });
          name = rw (b, n) (rw b at (ap (λ (z : Record). z.name) is-named));
          name-inside = rw (b, n) (record { forward = t.name.forward; within = t.name.within });
        }

  module _ (b : is_block tag ≡ true) (middle : ℕ) (f : BlockFields s (2 * width_of tag) start end middle) where
    is_block_lem : record_on s (layout_of tag start middle end) ≡ r
    is_block_lem = is s tag start end r e middle (block-whole s tag start end q b (2 * width_of tag) refl middle f)

    by-block : Laid s tag start end r
    unfolding range_span handle_span name_span passed
    by-block =
        let t = f.texts in
        let w = 2 * width_of tag in
        let i : start + 3 + w ≤ end = f.range.within in
        let a : start + 3 + w + 3 ≡ start + 6 + w = omega arith in
        let g : inner_span s start end 0 ≡ span_from_to (start + 3) (start + 3 + w) = span_at s end 0x20 start (start + 3 + w) f.range start 0 refl in
        let h : inner_span s start end 1 ≡ span_from_to (start + 3 + w + 3) middle =
        span_at s end 0x21 (start + 3 + w) middle t.handle start 1 (pass-one s end 0x20 start (start + 3 + w) f.range 0) in
        let n : inner_span s start end 2 ≡ span_from_to (middle + 3) (end - 4) =
        span_at s end 0x22 middle (end - 4) t.name start 2
        (pass-one s end 0x20 start (start + 3 + w) f.range 1 ∙ pass-one s end 0x21 (start + 3 + w) middle t.handle 0) in
        record {
          own-tag = sym (ap (λ (z : Record). z.tag) is_block_lem);
          range_inside = λ z. i;
          range = λ z. rw b at (ap (λ (z : Record). z.range) is_block_lem);
          range_span_lem = rw (b, g) (rw b at (ap (λ (z : Record). z.range) is_block_lem));
          range_span_inside = rw (b, g) (record { forward = omega arith; within = i });
          handle = rw (b, h, a) (rw b at (ap (λ (z : Record). z.handle) is_block_lem));
          handle-inside = rw (b, h) (record { forward = t.handle.forward; within = t.handle.within });
          name = rw (b, n) (rw b at (ap (λ (z : Record). z.name) is_block_lem));
          name-inside = rw (b, n) (record { forward = t.name.forward; within = t.name.within });
        }

  pub laid : Laid s tag start end r
  laid = by-tag (is_block tag) refl
    where
      by-tag : (v : Bool) → is_block tag ≡ v → Laid s tag start end r
      by-tag true x = let f = block-fields s tag start end q x (2 * width_of tag) refl r p e in by-block x f.at f.holds
      by-tag false x = let f = named-fields s tag start end q x r p e in by-named x f.at f.holds
