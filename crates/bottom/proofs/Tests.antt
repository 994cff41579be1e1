-- The blocks where they stand in the image, and a turn of the pass that lists those that pass a test.
use Prim.Native.Nat.{ℕ, ◌+◌, ◌≤◌, ◌<◌}
use mathlib.Core.Bool.{Bool, true, false}
use mathlib.Core.Path.{◌≡◌, sym, subst, ◌∙◌}
use mathlib.Core.List.{List, [], ◌∷◌}
use native.Mathlib.Omega.{arith}
use native.Mathlib.Numerals.{add-one}
use lib.Dec.{T}
use lib.ListN.{length, drop, get_or, drop_of_length-le}
use lib.Seq.{drop-cons}
use Rattle.registry.specs.Tags.{width_of}
use Rattle.nesting.proofs.Families.{wide-family}
use Rattle.forest.specs.Blocks.{Block}
use Rattle.forest.specs.Relations.{select}
use Rattle.forest.proofs.Select.{select_kept, select-dropped}
use Rattle.scans.specs.Standing.{blocks_in}
use Rattle.containment.specs.Tests.{Comparable}
use Rattle.links.specs.Links.{absent, nth, Gathered}

module _ {s : List ℕ} {family : ℕ} {firsts : List ℕ} {n : ℕ} (g : Gathered s family firsts n) where
  pub none_left : (i : ℕ) → n ≤ i → drop i (blocks_in s family) ≡ []
  none_left i h = let k : length (blocks_in s family) ≤ i = omega (arith, g.counted) in drop_of_length-le (blocks_in s family) k

  module _ (i : ℕ) (h : i < n) where
    pub one_left : drop i (blocks_in s family) ≡ nth (blocks_in s family) i ∷ drop (i + 1) (blocks_in s family)
    one_left = rw (add-one i) (drop-cons (blocks_in s family) i absent (omega (arith, g.counted)))

    pub comparable-at : {w : ℕ} → w ≡ width_of family → Comparable s (get_or firsts i 0) w
    comparable-at e = record { wide = rw e (wide-family family); fits = rw e (g.fits i h) }

    module _ (f : Block → Bool) {v : Bool} (t : v ≡ f (nth (blocks_in s family) i)) where
      pub select-one : v ≡ true → select f (drop i (blocks_in s family)) ≡ (nth (blocks_in s family) i).number ∷ select f (drop (i + 1) (blocks_in s family))
      select-one e = rw one_left (select_kept f (nth (blocks_in s family) i) (drop (i + 1) (blocks_in s family)) (subst T (sym (sym t ∙ e)) tt))

      pub select-none : v ≡ false → select f (drop i (blocks_in s family)) ≡ select f (drop (i + 1) (blocks_in s family))
      select-none e = rw one_left (select-dropped f (nth (blocks_in s family) i) (drop (i + 1) (blocks_in s family)) (λ k. subst T (sym t ∙ e) k))
