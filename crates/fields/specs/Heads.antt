-- Serves contracts and proofs. The field by positions is the head of the part of the image that it looks at (`head-slice`), has the tag that stands there (`field-tag`)
-- and lies inside the part (`field-inside`).
use Rattle.std.proofs.Math.Path.{◌≡◌}
use Rattle.std.specs.Prelude.{refl, Bool, List, [], ◌∷◌, ℕ, zero, suc, ◌+◌, ◌-◌, ◌≤◌, ◌<◌, length, get_or, ltb, Some, None}
use Rattle.std.proofs.Common.{sym, ap, ◌∙◌, arith}
use Rattle.std.proofs.lemmas.Option.{none-some, same_Some}
use Rattle.std.proofs.Math.Bool.{true, false}
use borrow.Author.Tests.{le-leb, lt-leb, ltb-true, ltb-false}
use Rattle.std.proofs.Math.Seq.{slice, slice-cons, length-slice}
use Rattle.registry.specs.Tags.{head_length}
use Rattle.fields.specs.Field.{short, head_of}
use Rattle.fields.specs.Positions.{field_at, head_at, length_at, FieldInside, behind, passed, field_after, field_of}
use Rattle.fields.specs.Slices.{take-slice, drop-slice}
use Rattle.fields.specs.declared.Field.{Field}

head-short : (l : List ℕ) → length l < 3 → head_of l ≡ short
unfolding head_of
head-short [] h = refl
head-short (a ∷ []) h = refl
head-short (a ∷ b ∷ []) h = refl
head-short (a ∷ b ∷ c ∷ l) h = absurd (omega arith)

module _ (s : List ℕ) (at end : ℕ) (p : at ≤ end) (q : end ≤ length s) where
  header : 3 ≤ end - at → slice at end s ≡ get_or s at 0 ∷ get_or s (at + 1) 0 ∷ get_or s (at + 2) 0 ∷ slice (at + head_length) end s
  header h =
      let a : suc at ≡ at + 1 = omega arith in
      let b : suc (at + 1) ≡ at + 2 = omega arith in
      let c : suc (at + 2) ≡ at + head_length = omega arith in
      slice-cons at end s 0 (omega arith) q
      ∙ rw (a, slice-cons (at + 1) end s 0 (omega arith) q, b, slice-cons (at + 2) end s 0 (omega arith) q, c)

  by-room : (t u : Bool) → ltb (end - at) 3 ≡ t → ltb (end - (at + head_length)) (length_at s at) ≡ u → head_at s end (field_at s at end) ≡ head_of (slice at end s)
  unfolding field_at head_of
  by-room true u e f = rw e (sym (head-short (slice at end s) (rw (length-slice at end s q) (ltb-true (end - at) 3 e))))
  by-room false true e f =
      let h : 3 ≤ end - at = ltb-false (end - at) 3 e in
      rw (e, f, header h, length-slice (at + head_length) end s q, lt-leb _ _ (ltb-true _ _ f))
  by-room false false e f =
      let h : 3 ≤ end - at = ltb-false (end - at) 3 e in
      let k : length_at s at ≤ end - (at + head_length) = ltb-false _ _ f in
      rw (e, f, header h, length-slice (at + head_length) end s q, le-leb _ _ k, take-slice (length_at s at) (at + head_length) end s (omega arith), drop-slice (length_at s at) (at + head_length) end s)

  pub head-slice : head_at s end (field_at s at end) ≡ head_of (slice at end s)
  head-slice = by-room (ltb (end - at) 3) (ltb (end - (at + head_length)) (length_at s at)) refl refl

-- what is known where a whole field stands
record Stands (s : List ℕ) (at end : ℕ) (f : Field) : Type 0 where
  room : 3 ≤ end - at
  fits : length_at s at ≤ end - (at + head_length)
  is : field_of (get_or s at 0) (at + head_length) (at + head_length + length_at s at) ≡ f

module _ (s : List ℕ) (at end : ℕ) (f : Field) where
  stands_by : (v w : Bool) → ltb (end - at) 3 ≡ v → ltb (end - (at + head_length)) (length_at s at) ≡ w → field_at s at end ≡ Some f → Stands s at end f
  unfolding field_at
  stands_by true w p q e = let k : None ≡ Some f = rw p at e in absurd (none-some f k)
  stands_by false true p q e = let k : None ≡ Some f = rw (p, q) at e in absurd (none-some f k)
  stands_by false false p q e = record { room = ltb-false _ _ p; fits = ltb-false _ _ q; is = same_Some _ _ (rw (p, q) at e) }

  stands : field_at s at end ≡ Some f → Stands s at end f
  stands e = stands_by (ltb (end - at) 3) (ltb (end - (at + head_length)) (length_at s at)) refl refl e

  pub field-tag : field_at s at end ≡ Some f → f.tag ≡ get_or s at 0
  field-tag e = sym (ap (λ (x : Field). x.tag) (stands e).is)

  pub field-inside : field_at s at end ≡ Some f → FieldInside at end f.start f.end
  field-inside e =
      let w = stands e in
      let x : at + head_length ≡ f.start = ap (λ (x : Field). x.start) w.is in
      let y : at + head_length + length_at s at ≡ f.end = ap (λ (x : Field). x.end) w.is in
      record { after = x; forward = omega arith; within = omega (arith, w.room, w.fits) }

-- the last of a reader's steps
pub passed-next : (s : List ℕ) (n at end : ℕ) → passed s (suc n) at end ≡ behind (field_after s n at end) (passed s n at end)
unfolding passed
passed-next s zero at end = refl
passed-next s (suc n) at end = passed-next s n (behind (field_at s at end) at) end
