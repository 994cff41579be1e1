-- The bytes at a start, and what stands at the start of a row.
use mathlib.Core.Path.{◌≡◌, refl, sym, ◌∙◌, ap}
use mathlib.Core.List.{List, []}
use Prim.Native.Nat.{ℕ, ◌+◌, ◌-◌, ◌≤◌, ◌<◌}
use native.Mathlib.Omega.{arith}
use native.Mathlib.Nat.{le_refl}
use borrow.Author.Tests.{lt-ltb, le-ltb}
use lib.ListN.{length, take, drop}
use lib.Seq.{slice, slice_empty, length-slice, take-length}
use Rattle.std.specs.Prelude.{Option, Some, None}
use Rattle.fields.specs.Field.{field, short, head_of}
use Rattle.fields.specs.Positions.{field_at, head_at, FieldInside}
use Rattle.fields.specs.Heads.{head-slice, field-inside}
use Rattle.fields.specs.Slices.{part_slice}
use Rattle.fields.specs.declared.Field.{Field}
use Rattle.merged.specs.Held.{bytes_from, field_bytes, bytes_at}

-- the whole slice as a part
pub whole_part : (s : List ℕ) (at : ℕ) → slice at (length s) s ≡ drop at s
whole_part s at = ap (λ (l : List ℕ). drop at l) (take-length s)

module _ (s : List ℕ) (at : ℕ) (f : Option Field) (e : f ≡ field_at s at (length s)) where
  pub bytes-short : f ≡ None → [] ≡ field_bytes s at
  bytes-short g = ap (bytes_from s at) (sym g ∙ e)

  pub head-short : at ≤ length s → f ≡ None → head_of (drop at s) ≡ short
  head-short h g =
      rw (← whole_part s at) (sym (head-slice s at (length s) h (le_refl _)) ∙ ap (head_at s (length s)) (sym e ∙ g))

  module _ (x : Field) (g : f ≡ Some x) where
    pub bytes_inside : FieldInside at (length s) x.start x.end
    bytes_inside = field-inside s at (length s) x (sym e ∙ g)

    pub bytes_whole : take (x.end - at) (drop at s) ≡ field_bytes s at
    bytes_whole =
        let i = bytes_inside in
        part_slice at x.end s (omega (arith, i.after, i.forward)) ∙ ap (bytes_from s at) (sym g ∙ e)

    pub head-whole : head_of (drop at s) ≡ field x.tag (slice x.start x.end s) (drop x.end s)
    head-whole =
        let i = bytes_inside in
        let h : at ≤ length s = omega (arith, i.after, i.forward, i.within) in
        rw (← whole_part s at, ← whole_part s x.end) (sym (head-slice s at (length s) h (le_refl _)) ∙ ap (head_at s (length s)) (sym e ∙ g))

-- the bytes of the field at a position, from there up to their end
pub record Ended (s : List ℕ) (at : ℕ) : Type 0 where
  pub inside : at + length (field_bytes s at) ≤ length s
  pub same : field_bytes s at ≡ slice at (at + length (field_bytes s at)) s

pub ended : (s : List ℕ) (at : ℕ) → at ≤ length s → Ended s at
ended s at h = go (field_at s at (length s)) refl
  where
    go : (f : Option Field) → f ≡ field_at s at (length s) → Ended s at
    go None e =
        let none : [] ≡ field_bytes s at = bytes-short s at None e refl in
        let k : at + length (field_bytes s at) ≡ at = omega (arith, ap length none) in
        record { inside = omega arith; same = sym none ∙ sym (slice_empty at s) ∙ ap (λ (n : ℕ). slice at n s) (sym k) }
    go (Some x) e =
        let i = bytes_inside s at (Some x) e x refl in
        let w : slice at x.end s ≡ field_bytes s at = sym (part_slice at x.end s (omega (arith, i.after, i.forward))) ∙ bytes_whole s at (Some x) e x refl in
        let n : at + length (field_bytes s at) ≡ x.end = omega (arith, ap length w, length-slice at x.end s i.within, i.after, i.forward) in
        record { inside = omega (arith, n, i.within); same = sym w ∙ rw n }

module _ (image changes x : List ℕ) (start : ℕ) where
  pub start-image : start < 262144 → x ≡ field_bytes image start → x ≡ bytes_at image changes start
  unfolding bytes_at
  start-image h e = rw (lt-ltb start 262144 h) e

  pub start-changes : 262144 ≤ start → x ≡ field_bytes changes (start - 262144) → x ≡ bytes_at image changes start
  unfolding bytes_at
  start-changes h e = rw (le-ltb start 262144 h) e
