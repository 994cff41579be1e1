-- Every record of a sound image stands where it starts, and its range, its handle and its name lie in it.
use mathlib.Core.Path.{◌≡◌, sym, ap, ◌∙◌}
use mathlib.Core.Bool.{true}
use mathlib.Core.List.{List}
use Prim.Native.Nat.{ℕ, ◌+◌, ◌-◌, ◌*◌, ◌≤◌, ◌<◌}
use native.Mathlib.Omega.{arith}
use native.Mathlib.Nat.{le_trans}
use lib.ListN.{length, take, drop, get_or}
use lib.Seq.{slice, length-slice}
use Rattle.std.specs.Prelude.{Some}
use Rattle.registry.specs.Tags.{is_block, width_of}
use Rattle.address.specs.Address.{numbers, range_at, number_at}
use Rattle.address.specs.Ranges.{range_from}
use Rattle.fields.specs.Positions.{field_of}
use Rattle.fields.specs.Heads.{field-tag, field-inside}
use Rattle.fields.specs.Slices.{take-slice, drop-slice, part_slice}
use Rattle.records.specs.Record.{Record}
use Rattle.records.specs.Positions.{bytes_of, Inside}
use Rattle.records.proofs.Shapes.{a_block}
use Rattle.records.proofs.Laid.{Laid, laid}
use Rattle.image.specs.Image.{image_of}
use Rattle.image.specs.Part.{records_of, contents_of}
use Rattle.image.specs.Checking.{verdict_of}
use Rattle.image.specs.Entries.{start_of, contents_in, contents_span}
use Rattle.image.specs.Index.{tag_of, Standing, Indexed}
use Rattle.registry.specs.declared.Part.{Part}
use Rattle.registry.specs.declared.Part.TheVariants.{Range, Handle, Name}
use Rattle.std.specs.Prelude.{Ok}
use Rattle.image.proofs.Soundness.{counted}
use Rattle.entries.proofs.Numbered.{stands_here}

-- the range read at a position
range-read : (s : List ℕ) (at w : ℕ) → numbers (range_at s at w) ≡ range_from w (slice at (at + 2 * w) s)
range-read s at w =
    let a : at + w - at ≡ w = omega arith in
    let b : at + 2 * w - (at + w) ≡ w = omega arith in
    let x : take w (drop at s) ≡ slice at (at + w) s = rw a at (part_slice at (at + w) s (omega arith)) in
    let y : take w (drop (at + w) s) ≡ slice (at + w) (at + 2 * w) s = rw b at (part_slice (at + w) (at + 2 * w) s (omega arith)) in
    rw (number_at s at w, number_at s (at + w) w, x, y, take-slice w at (at + 2 * w) s (omega arith), drop-slice w at (at + 2 * w) s)

-- the parts of a record that lies in a field
module _ {s : List ℕ} {tag start end : ℕ} {r : Record} (l : Laid s tag start end r) where
  contents-laid : (which : Part) → bytes_of s (contents_in which s (Some (field_of tag start end))) ≡ contents_of which r
  contents-laid Range = l.range_span_lem
  contents-laid Handle = l.handle
  contents-laid Name = l.name

  inside-laid : (which : Part) → Inside end (contents_in which s (Some (field_of tag start end)))
  inside-laid Range = l.range_span_inside
  inside-laid Handle = l.handle-inside
  inside-laid Name = l.name-inside

pub standing : (s : List ℕ) (i : ℕ) → i < length (records_of (image_of s)) → Standing s i
unfolding tag_of contents_span
standing s i h =
    let x = stands_here s i h in
    let l = laid s x.tag x.start x.end x.r x.inside.forward x.inside.within x.accepted.parsed in
    let u : x.tag ≡ get_or s (start_of s i) 0 = field-tag s (start_of s i) (length s) _ x.field-here in
    let v : x.start ≡ start_of s i + 3 = sym x.inside.after in
    let w : start_of s i + 3 + 3 ≡ start_of s i + 6 = omega arith in
    let block : x.tag ≤ 18 → is_block x.tag ≡ true = a_block x.tag x.accepted.low in
    record {
      r = x.r;
      end = x.end;
      here = x.listed;
      field-here = rw (← u, ← v) x.field-here;
      tag = sym u ∙ sym l.own-tag;
      good = x.accepted.good-contents;
      low = rw (← u) x.accepted.low;
      high = rw (← u) x.accepted.high;
      within = omega (arith, v, x.inside.forward, x.inside.within);
      range_inside = rw (← u, ← w, ← v) (λ z. le_trans (l.range_inside (block z)) x.inside.within);
      range = rw (← u, ← w, ← v) (λ z. l.range (block z));
      range-numbers = rw (← u, ← w, ← v) (λ z. range-read s (x.start + 3) (width_of x.tag) ∙ rw (l.range (block z), l.own-tag));
      contents = rw x.field-here (contents-laid l);
      contents-inside = rw x.field-here (inside-laid l);
    }

-- the same by the verdict
pub standing_of : (s : List ℕ) (count : ℕ) → verdict_of (image_of s) ≡ Ok count → (i : ℕ) → i < count → Standing s i
standing_of s count v i h = standing s i (omega (arith, counted (image_of s) count v))

-- the range of a block has two addresses or numbers
pub range_length : {s : List ℕ} {i : ℕ} (x : Standing s i) → tag_of s i ≤ 18 → length x.r.range ≡ 2 * width_of (tag_of s i)
range_length {s} {i} x h =
    let from = start_of s i + 6 in
    ap length (sym (x.range h)) ∙ length-slice from (from + 2 * width_of (tag_of s i)) s (x.range_inside h) ∙ omega arith

-- a part lies in the record, and so in the image
pub contents_in_image : {s : List ℕ} {i : ℕ} → Standing s i → (which : Part) → Inside (length s) (contents_span which s (start_of s i))
contents_in_image {s} {i} x which =
    let k = field-inside s (start_of s i) (length s) _ x.field-here in
    let l = x.contents-inside which in
    record { forward = l.forward; within = le_trans l.within k.within }

-- by the index: the start noted of a record holds its tag
module _ (s starts : List ℕ) (count : ℕ) (x : Indexed s count starts) where
  pub tag-here : (i : ℕ) → i < count → get_or s (get_or starts i 0) 0 ≡ tag_of s i
  unfolding tag_of
  tag-here i h = rw (x.start i h)

  pub start-inside : (i : ℕ) → i < count → get_or starts i 0 + 3 ≤ length s
  start-inside i h = rw (x.start i h) (standing_of s count x.sound i h).within
