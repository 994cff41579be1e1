-- Covering and lying inside, by two comparisons each; strictly, by not the other way round too.
use mathlib.Core.Bool.{Bool, true, false, not}
use mathlib.Core.Path.{◌≡◌, refl, sym, ◌∙◌}
use Prim.Native.Nat.{ℕ, zero, suc, ◌≤◌, ◌<◌}
use lib.Dec.{leb}
use borrow.Author.Tests.{eq-eqb, ne_eqb, le-leb}
use native.Mathlib.Omega.{arith}
use Rattle.address.specs.Ranges.{Range, covers, strictly_covers, strictly_inside}
use Rattle.address.proofs.Covering.{not-leb, strictly_covers_lem}
use Rattle.containment.specs.Tests.{surrounds_by, free_after, keeps_from}

module _ (a b : Range) {u : Bool} (e : u ≡ leb a.first b.first) where
  pub covers-no : u ≡ false → false ≡ covers a b
  unfolding covers
  covers-no f = rw (sym e ∙ f)

  pub covers-yes : u ≡ true → {v : Bool} → v ≡ leb b.last a.last → v ≡ covers a b
  unfolding covers
  covers-yes f g = rw (sym e ∙ f) g

pub covers-from : (a b : Range) → a.first ≤ b.first → {v : Bool} → v ≡ leb b.last a.last → v ≡ covers a b
covers-from a b h g = covers-yes a b refl (le-leb a.first b.first h) g

module _ (a b : Range) {u : Bool} (e : u ≡ covers a b) where
  pub strictly_no : u ≡ false → false ≡ strictly_covers a b
  strictly_no f = rw (strictly_covers_lem a b, sym e ∙ f)

  pub strictly_yes : u ≡ true → {v : Bool} → v ≡ covers b a → not v ≡ strictly_covers a b
  strictly_yes f g = rw (strictly_covers_lem a b, sym e ∙ f, ← g)

  pub inside-no : u ≡ false → false ≡ strictly_inside b a
  unfolding strictly_inside
  inside-no f = strictly_no f

  pub inside-yes : u ≡ true → {v : Bool} → v ≡ covers b a → not v ≡ strictly_inside b a
  unfolding strictly_inside
  inside-yes f g = strictly_yes f g

module _ (strict : Bool) (r q : Range) {u : Bool} (e : u ≡ covers r q) where
  pub surrounds_no : u ≡ false → false ≡ surrounds_by strict r q
  surrounds_no f = go strict
    where
      go : (s : Bool) → false ≡ surrounds_by s r q
      go true = strictly_no r q e f
      go false = sym f ∙ e

  pub surrounds_strictly : u ≡ true → strict ≡ true → {v : Bool} → v ≡ covers q r → not v ≡ surrounds_by strict r q
  surrounds_strictly f s g = rw s (strictly_yes r q e f g)

  pub surrounds_yes : u ≡ true → strict ≡ false → true ≡ surrounds_by strict r q
  surrounds_yes f s = rw s (sym f ∙ e)

-- strictly inside, and after the blocks that were kept
module _ (r q : Range) {u : Bool} (e : u ≡ strictly_inside r q) where
  pub keeps_no : (free : ℕ) → u ≡ false → false ≡ keeps_from free r q
  keeps_no free f = rw (sym e ∙ f)

  module _ (n k : ℕ) (f : u ≡ true) where
    pub keeps_first : n ≡ 0 → true ≡ keeps_from (free_after n k) r q
    keeps_first z = rw (sym e ∙ f, eq-eqb n 0 z) (sym (le-leb 0 r.first (omega arith)))

    pub keeps_later : (n ≡ 0 → ⊥) → {v : Bool} → v ≡ leb r.first k → not v ≡ keeps_from (free_after n k) r q
    keeps_later z g = rw (sym e ∙ f, ne_eqb n 0 z) (not-leb r.first k g)

pub positive : (n : ℕ) → (n ≡ 0 → ⊥) → 0 < n
positive zero f = absurd (f refl)
positive (suc n) f = omega arith
