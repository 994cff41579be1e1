-- A turn of the pass that lists the blocks found, and what the two ways of bottom list.
use Prim.Native.Nat.{ℕ, ◌+◌, ◌<◌}
use mathlib.Core.Bool.{Bool, true, false}
use mathlib.Core.Path.{◌≡◌, refl, sym, ap, ◌∙◌}
use mathlib.Core.List.{List, [], ◌∷◌, ◌++◌}
use native.Mathlib.Omega.{arith}
use lib.Dec.{T}
use lib.ListN.{length, take, drop, set, length-set}
use Rattle.octets.specs.Lists.{any}
use Rattle.address.specs.Ranges.{Range, strictly_inside}
use Rattle.forest.specs.Blocks.{Block}
use Rattle.forest.specs.Defects.{accepted}
use Rattle.forest.specs.Relations.{select, only_if, bottom}
use Rattle.forest.proofs.Bottom.{bottom-scan}
use Rattle.scans.specs.Standing.{blocks_in}
use Rattle.output.specs.Listing.{Collected}
use Rattle.output.proofs.Emit.{one_more}
use Rattle.links.specs.Links.{nth, Gathered}
use Rattle.bottom.specs.Testing.{holders_of}
use Rattle.bottom.proofs.Tests.{select-one, select-none}

module _ {s : List ℕ} {family : ℕ} {firsts : List ℕ} {n : ℕ} (g : Gathered s family firsts n) (i : ℕ) (h : i < n) (f : Block → Bool)
    {v : Bool} (t : v ≡ f (nth (blocks_in s family) i)) (hits : List ℕ) (m : ℕ) (full : length hits ≡ 4096) {R : List ℕ}
    (inv : take m hits ++ select f (drop i (blocks_in s family)) ≡ R) where
  pub pick : v ≡ true → m < 4096 → (number : ℕ) → (nth (blocks_in s family) i).number ≡ number
      → {hits' : List ℕ} {m' : ℕ} → hits' ≡ set hits m number → m' ≡ m + 1
      → (length hits' ≡ 4096) × (take m' hits' ++ select f (drop (i + 1) (blocks_in s family)) ≡ R)
  pick e k number o x y = (
    ap length x ∙ length-set hits m number ∙ full,
    rw (x, y) (one_more hits m number (select-one g i h f t e ∙ ap (λ (a : ℕ). a ∷ select f (drop (i + 1) (blocks_in s family))) o) (omega arith) inv),
  )

  pub pass : v ≡ false → {hits' : List ℕ} {m' : ℕ} → hits' ≡ hits → m' ≡ m
      → (length hits' ≡ 4096) × (take m' hits' ++ select f (drop (i + 1) (blocks_in s family)) ≡ R)
  pass e x y = (ap length x ∙ full, rw (x, y) (ap (λ (l : List ℕ). take m hits ++ l) (sym (select-none g i h f t e)) ∙ inv))

pub select_nil : (f : Block → Bool) → select f [] ≡ []
unfolding select
select_nil f = refl

module _ (bs : List Block) (t : T (accepted bs)) (q : Range) {v : Bool} (e : v ≡ any (λ b. strictly_inside b.range q) bs) where
  scanned : bottom bs q ≡ only_if v (holders_of bs q)
  scanned = bottom-scan bs t q ∙ ap (λ (w : Bool). only_if w (holders_of bs q)) (sym e)

  pub bottom-some : v ≡ true → {hits : List ℕ} {n : ℕ} → Collected hits (holders_of bs q) n → Collected hits (bottom bs q) n
  bottom-some h c = record { full = c.full; few = c.few; same = c.same ∙ sym (rw h at scanned) }

  pub bottom-none : v ≡ false → {hits : List ℕ} → length hits ≡ 4096 → Collected hits (bottom bs q) 0
  bottom-none h z = record { full = z; few = omega arith; same = sym (rw h at scanned) }
