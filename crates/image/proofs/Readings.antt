-- Reading a record at a position, and the start of the image.
use mathlib.Core.Path.{◌≡◌, refl, sym, ◌∙◌}
use mathlib.Core.Bool.{Bool, true, false, ◌&&◌}
use mathlib.Core.List.{List, [], ◌∷◌}
use Prim.Native.Nat.{ℕ, ◌≤◌, ◌<◌}
use borrow.Author.Tests.{le-leb, eq-eqb, ne_eqb, eqb-true, eqb-false}
use native.Mathlib.Nat.{le_refl}
use native.Mathlib.Omega.{arith}
use lib.Dec.{eqb}
use lib.ListN.{length}
use lib.Seq.{slice}
use Rattle.std.specs.Prelude.{Option, Some, None}
use Rattle.fields.specs.Field.{field, short, head_of}
use Rattle.fields.specs.Positions.{field_at, FieldInside}
use Rattle.fields.specs.Heads.{head-slice, field-inside}
use Rattle.fields.specs.declared.Field.{Field}
use Rattle.records.specs.Layout.{layout_of}
use Rattle.record_judgement.specs.Judging.{Judging}
use Rattle.std.specs.Prelude.{Result, Ok, Err}
use Rattle.std.specs.List.{starts_with}
use Rattle.registry.specs.declared.Defect.{Defect}
use Rattle.registry.specs.declared.Defect.TheVariants.{BadRecord}
use Rattle.image.specs.Image.{starts_right}
use Rattle.image.specs.Checking.{ReadAt}

module _ (s : List ℕ) (at : ℕ) (q : at ≤ length s) (f : Option Field) (e : f ≡ field_at s at (length s)) where
  pub read_short : f ≡ None → ReadAt s at (Err BadRecord)
  read_short g earlier =
      let h : short ≡ head_of (slice at (length s) s) = rw (← e, g) at (head-slice s at (length s) q (le_refl _)) in
      rw (← h)

  module _ (x : Field) (g : f ≡ Some x) where
    pub read-inside : FieldInside at (length s) x.start x.end
    read-inside = field-inside s at (length s) x (sym e ∙ g)

    pub read_head : head_of (slice at (length s) s) ≡ field x.tag (slice x.start x.end s) (slice x.end (length s) s)
    read_head = sym (rw (← e, g) at (head-slice s at (length s) q (le_refl _)))

    module _ (j : Result ℕ Defect) (m : Judging s x.tag x.start x.end j) where
      pub read-good : (middle : ℕ) → j ≡ Ok middle → ReadAt s at (Ok (layout_of x.tag x.start middle x.end))
      read-good middle h = record { readable = (rw h at m); stands = sym e ∙ g }

      pub read-bad : (d : Defect) → j ≡ Err d → ReadAt s at (Err d)
      read-bad d h earlier =
          let k : Judging s x.tag x.start x.end (Err d) = rw h at m in
          rw (read_head, k earlier)

-- The start of an image, as the code compares it

four : (t u v w : Bool) → (t && (u && (v && (w && true)))) ≡ (t && u && v && w)
four true true true true = refl
four true true true false = refl
four true true false w = refl
four true false v w = refl
four false u v w = refl

none : (t u v : Bool) → (t && (u && (v && false))) ≡ false
none true true true = refl
none true true false = refl
none true false v = refl
none false u v = refl

eqb-other : (a b : ℕ) → eqb a b ≡ eqb b a
eqb-other a b = by-test (eqb b a) refl
  where
    by-test : (t : Bool) → eqb b a ≡ t → eqb a b ≡ t
    by-test true e = eq-eqb a b (sym (eqb-true b a e))
    by-test false e = ne_eqb a b (λ f. eqb-false b a e (sym f))

pub starts_with-is : (s : List ℕ) → starts_with eqb s (1 ∷ 0 ∷ 1 ∷ 1 ∷ []) ≡ starts_right s
unfolding starts_right
starts_with-is [] = refl
starts_with-is (a ∷ []) = none (eqb 1 a) true true
starts_with-is (a ∷ b ∷ []) = none (eqb 1 a) (eqb 0 b) true
starts_with-is (a ∷ b ∷ c ∷ []) = none (eqb 1 a) (eqb 0 b) (eqb 1 c)
starts_with-is (a ∷ b ∷ c ∷ d ∷ s) =
    rw (le-leb 4 (length (a ∷ b ∷ c ∷ d ∷ s)) (omega arith))
    (four (eqb 1 a) (eqb 0 b) (eqb 1 c) (eqb 1 d) ∙ rw (eqb-other 1 a, eqb-other 0 b, eqb-other 1 c, eqb-other 1 d))
