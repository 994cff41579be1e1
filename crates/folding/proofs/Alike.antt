-- Two texts compared, for a loop that has come to place i: what is left of them decides.
use mathlib.Core.Path.{◌≡◌, refl, sym, ap, ap₂, ◌∙◌}
use mathlib.Core.Bool.{Bool, true, false, ◌&&◌, false≢true}
use mathlib.Core.List.{List, [], ◌∷◌}
use Prim.Native.Nat.{ℕ, zero, suc, ◌+◌, ◌≤◌, ◌<◌}
use native.Mathlib.Omega.{arith}
use borrow.Author.Tests.{eq-eqb, eqb-true}
use native.Mathlib.Numerals.{add-one}
use lib.Dec.{eqb}
use lib.ListN.{length, get_or, take, drop, drop_of_length-le}
use lib.Seq.{drop-cons}
use lib.Pointwise.{pointwise}
use Rattle.octets.proofs.Connectives.{and-false}
use Rattle.texts.specs.Compare.{fold_if, alike}

module _ (f : Bool) where
  pub alike-length : (s t : List ℕ) → (length s ≡ length t → ⊥) → false ≡ alike f s t
  unfolding alike
  alike-length [] [] h = absurd (h refl)
  alike-length [] (d ∷ t) h = refl
  alike-length (c ∷ s) [] h = refl
  alike-length (c ∷ s) (d ∷ t) h = rw (← alike-length s t (λ e. h (ap suc e))) (sym (and-false (eqb (fold_if f c) (fold_if f d))))

  -- one pair of bytes that differ
  pub alike-not : (s t : List ℕ) (i : ℕ) → i < length s → i < length t → eqb (fold_if f (get_or s i 0)) (fold_if f (get_or t i 0)) ≡ false → false ≡ alike f s t
  unfolding alike
  alike-not [] t i h k e = absurd (omega arith)
  alike-not (c ∷ s) [] i h k e = absurd (omega arith)
  alike-not (c ∷ s) (d ∷ t) zero h k e = rw e
  alike-not (c ∷ s) (d ∷ t) (suc i) h k e = rw (← alike-not s t i (omega arith) (omega arith) e) (sym (and-false (eqb (fold_if f c) (fold_if f d))))

module _ (f : Bool) (s t : List ℕ) (i : ℕ) where
  pub alike_on : i < length s → i < length t → eqb (fold_if f (get_or s i 0)) (fold_if f (get_or t i 0)) ≡ true → alike f (drop i s) (drop i t) ≡ alike f (drop (i + 1) s) (drop (i + 1) t)
  unfolding alike
  alike_on h k e = rw (add-one, drop-cons s i 0 h, drop-cons t i 0 k, e)

  pub alike_end : length s ≤ i → length t ≤ i → alike f (drop i s) (drop i t) ≡ true
  unfolding alike
  alike_end h k = rw (drop_of_length-le s h, drop_of_length-le t k)

-- a beginning that both share
pub alike-after : (f : Bool) (s t : List ℕ) (i : ℕ) → i ≤ length s → i ≤ length t → take i s ≡ take i t → alike f (drop i s) (drop i t) ≡ alike f s t
unfolding alike
alike-after f s t zero h k e = refl
alike-after f [] t (suc i) h k e = absurd (omega arith)
alike-after f (c ∷ s) [] (suc i) h k e = absurd (omega arith)
alike-after f (c ∷ s) (d ∷ t) (suc i) h k e =
    let g : fold_if f c ≡ fold_if f d = ap (λ (l : List ℕ). fold_if f (get_or l 0 0)) e in
    rw (eq-eqb (fold_if f c) (fold_if f d) g) (alike-after f s t i (omega arith) (omega arith) (ap (drop 1) e))

-- Exactly: the same bytes

pub alike-itself : (s : List ℕ) → alike false s s ≡ true
alike-itself s = sym (alike-after false s s (length s) (omega arith) (omega arith) refl) ∙ alike_end false s s (length s) (omega arith) (omega arith)

alike_same : (s t : List ℕ) → alike false s t ≡ true → s ≡ t
unfolding alike fold_if
alike_same [] [] e = refl
alike_same [] (d ∷ t) e = absurd (false≢true e)
alike_same (c ∷ s) [] e = absurd (false≢true e)
alike_same (c ∷ s) (d ∷ t) e = by-test (eqb c d) refl e (alike_same s t)
  where
    by-test : (b : Bool) → eqb c d ≡ b → (b && alike false s t) ≡ true → (alike false s t ≡ true → s ≡ t) → c ∷ s ≡ d ∷ t
    by-test true p k onward = ap₂ ◌∷◌ (eqb-true c d p) (onward k)
    by-test false p k onward = absurd (false≢true k)

pub alike_others : (s t : List ℕ) → (s ≡ t → ⊥) → alike false s t ≡ false
alike_others s t n = by-test (alike false s t) refl
  where
    by-test : (b : Bool) → alike false s t ≡ b → b ≡ false
    by-test false e = refl
    by-test true e = absurd (n (alike_same s t e))

-- what std's comparison answers
pub pointwise-alike : (s t : List ℕ) → pointwise eqb s t ≡ alike false s t
unfolding alike fold_if
pointwise-alike [] [] = refl
pointwise-alike [] (d ∷ t) = refl
pointwise-alike (c ∷ s) [] = refl
pointwise-alike (c ∷ s) (d ∷ t) = ap (λ b. eqb c d && b) (pointwise-alike s t)
