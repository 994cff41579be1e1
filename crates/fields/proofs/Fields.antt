-- The field step by its tests, and the steps of a reader; a reader of the image up to a position reads what ends there (`front-after`).
use mathlib.Core.Path.{◌≡◌, refl, sym, ◌∙◌}
use mathlib.Core.List.{List}
use Prim.Native.Nat.{ℕ, zero, suc, ◌+◌, ◌-◌, ◌*◌, ◌≤◌, ◌<◌}
use mathlib.Core.Bool.{Bool, true, false}
use native.Mathlib.Omega.{arith}
use borrow.Author.Tests.{lt-ltb, le-ltb, ltb-false, leb-true, le-leb, eq-eqb, eqb-true}
use Rattle.std.specs.Prelude.{Option, Some, None}
use lib.Dec.{leb, ltb, eqb}
use lib.ListN.{length, get_or, take}
use lib.Seq.{get_or-take, length-take-le}
use Rattle.fields.specs.Positions.{length_at, field_at, end_by, end_between, behind, passed, field_after, field_of}
use Rattle.fields.specs.declared.Field.{Field}

module _ (s : List ℕ) (at end : ℕ) where
  pub no-head : end - at < 3 → None ≡ field_at s at end
  unfolding field_at
  no-head h = simp (lt-ltb _ _ h)

  module _ (h l : ℕ) (p : h ≡ get_or s (at + 1) 0) (q : l ≡ get_or s (at + 2) 0) (t : 3 ≤ end - at) where
    pub too_long : end - at < h * 256 + l + 3 → None ≡ field_at s at end
    unfolding field_at
    too_long k =
        let m : end - (at + 3) < h * 256 + l = omega arith in
        rw (← p, ← q) (simp (le-ltb _ _ t, lt-ltb _ _ m))

    pub whole : h * 256 + l + 3 ≤ end - at → Some (field_of (get_or s at 0) (at + 3) (at + 3 + (h * 256 + l))) ≡ field_at s at end
    unfolding field_at
    whole k =
        let m : h * 256 + l ≤ end - (at + 3) = omega arith in
        rw (← p, ← q) (simp (le-ltb _ _ t, le-ltb _ _ m))

-- the step to a field of a tag and of low to high bytes
module _ (s : List ℕ) (at end low high tag : ℕ) where
  -- a test that fails leaves none
  pub none-ends : (3 ≤ end - at → length_at s at ≤ end - (at + 3) → get_or s at 0 ≡ tag → low ≤ length_at s at → length_at s at ≤ high → ⊥)
      → None ≡ end_between low high tag (field_at s at end)
  unfolding field_at end_by
  none-ends n = by_tests (ltb (end - at) 3) (ltb (end - (at + 3)) (length_at s at)) (eqb (get_or s at 0) tag) (leb low (length_at s at)) (leb (length_at s at) high) refl refl refl refl refl
    where
      d : at + 3 + length_at s at - (at + 3) ≡ length_at s at
      d = omega arith

      by_tests : (t u v w x : Bool) → ltb (end - at) 3 ≡ t → ltb (end - (at + 3)) (length_at s at) ≡ u → eqb (get_or s at 0) tag ≡ v
          → leb low (length_at s at) ≡ w → leb (length_at s at) high ≡ x → None ≡ end_between low high tag (field_at s at end)
      by_tests true u v w x e f g h i = rw e
      by_tests false true v w x e f g h i = rw (e, f)
      by_tests false false false w x e f g h i = rw (e, f, g)
      by_tests false false true false x e f g h i = rw (e, f, g, d, h)
      by_tests false false true true false e f g h i = rw (e, f, g, d, h, i)
      by_tests false false true true true e f g h i = absurd (n (ltb-false _ _ e) (ltb-false _ _ f) (eqb-true _ _ g) (leb-true _ _ h) (leb-true _ _ i))

  pub one-ends : (n : ℕ) → length_at s at ≡ n → get_or s at 0 ≡ tag → at + 3 + n ≤ end → low ≤ n → n ≤ high → Some (at + 3 + n) ≡ end_between low high tag (field_at s at end)
  unfolding field_at end_by
  one-ends n e t k l h =
      let d : at + 3 + n - (at + 3) ≡ n = omega arith in
      rw (le-ltb (end - at) 3 (omega arith), e, le-ltb (end - (at + 3)) n (omega arith), eq-eqb _ _ t, d, le-leb low n l, le-leb n high h)

-- a reader of the image up to `end` reads what ends at `end`
module _ (s : List ℕ) (at end : ℕ) where
  by-room : (t : Bool) → ltb (end - at) 3 ≡ t → field_at (take end s) at end ≡ field_at s at end
  unfolding field_at
  by-room true e = rw e
  by-room false e =
      let h : 3 ≤ end - at = ltb-false (end - at) 3 e in
      rw (get_or-take end s at 0 (omega arith), get_or-take end s (at + 1) 0 (omega arith), get_or-take end s (at + 2) 0 (omega arith))

  front : field_at (take end s) at end ≡ field_at s at end
  front = by-room (ltb (end - at) 3) refl

pub front_at : (s : List ℕ) (at end : ℕ) → end ≤ length s → field_at (take end s) at (length (take end s)) ≡ field_at s at end
front_at s at end h = rw (length-take-le end s h) (front s at end)

front-passed : (s : List ℕ) (n at end : ℕ) → passed (take end s) n at end ≡ passed s n at end
unfolding passed
front-passed s zero at end = refl
front-passed s (suc n) at end = rw (front s at end) (front-passed s n (behind (field_at s at end) at) end)

pub front-after : (s : List ℕ) (n at end : ℕ) → end ≤ length s → field_after (take end s) n at (length (take end s)) ≡ field_after s n at end
front-after s n at end h = rw (length-take-le end s h, front-passed s n at end) (front s (passed s n at end) end)

-- the steps of a reader
module _ (s : List ℕ) (end : ℕ) where
  stays : (n at : ℕ) → field_at s at end ≡ None → passed s n at end ≡ at
  unfolding passed
  stays zero at e = refl
  stays (suc n) at e = rw e (stays n at e)

  -- a walk of n steps of which i are done
  pub none_left : (n i at to : ℕ) → n ≤ i → passed s (n - i) to end ≡ passed s n at end → to ≡ passed s n at end
  unfolding passed
  none_left n i at to h e =
      let d : n - i ≡ 0 = omega arith in
      rw d at e

  module _ (at : ℕ) (e : Option Field) (k : e ≡ field_at s at end) where
    pub stops : (m : ℕ) → e ≡ None → at ≡ passed s m at end
    stops m h = sym (stays m at (sym k ∙ h))

    goes_on : (m : ℕ) (f : Field) → e ≡ Some f → passed s (suc m) at end ≡ passed s m f.end end
    unfolding passed
    goes_on m f h = rw (← k, h)

    pub steps : (n i : ℕ) (f : Field) → e ≡ Some f → i < n → passed s (n - (i + 1)) f.end end ≡ passed s (n - i) at end
    steps n i f h l =
        let d : n - i ≡ suc (n - (i + 1)) = omega arith in
        rw d (sym (goes_on (n - (i + 1)) f h))
