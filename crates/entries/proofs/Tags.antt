-- The tags of a sound image do not fall, so the first record whose tag is not below a bound is found by halves.
use mathlib.Core.Path.{◌≡◌, refl}
use mathlib.Core.Bool.{Bool, true, false}
use mathlib.Core.List.{List, ◌∷◌}
use Prim.Native.Nat.{ℕ, zero, suc, ◌+◌, ◌≤◌, ◌<◌}
use native.Mathlib.Omega.{arith}
use native.Mathlib.Nat.{le_refl}
use borrow.Author.Tests.{leb-true, leb-false}
use lib.Dec.{T, leb}
use lib.ListN.{drop}
use Rattle.records.specs.Record.{Record, follows}
use Rattle.records.specs.Judge.{in_order}
use Rattle.records.proofs.Accepted.{follows-after}
use Rattle.image.specs.Image.{image_of}
use Rattle.image.specs.Part.{records_of}
use Rattle.image.specs.Checking.{verdict_of}
use Rattle.image.specs.Index.{tag_of, Standing, FirstFrom, RunOf}
use Rattle.std.specs.Prelude.{Ok}
use Rattle.image.proofs.Sound.{Later, done, next, records-later}
use Rattle.image.proofs.Soundness.{is-sound}
use Rattle.entries.proofs.Standing.{standing_of}
use Rattle.halves.proofs.Halves.{Sorted, by_neighbours, Halved}

is_true : (b : Bool) → T b → b ≡ true
is_true true t = refl
is_true false t = absurd t

-- of two records that stand next to each other the second follows the first
next-follows : {earlier later : List Record} → Later earlier later → (i : ℕ) (p r : Record) (rest : List Record) → drop i later ≡ p ∷ r ∷ rest → follows p r ≡ true
unfolding in_order
next-follows done zero p r rest e = absurd (let z : ◌≡◌ {A = ℕ} 0 1 = cc in omega arith)
next-follows done (suc i) p r rest e = absurd (let z : ◌≡◌ {A = ℕ} 0 1 = cc in omega arith)
next-follows (next a done) zero p r rest e = absurd (let z : ◌≡◌ {A = ℕ} 0 1 = cc in omega arith)
next-follows (next {r = x} a (next {r = y} b l)) zero p r rest e =
    let f : x ≡ p = cc in
    let g : y ≡ r = cc in
    rw (← f, ← g) (is_true _ b.ordered)
next-follows (next a l) (suc i) p r rest e = next-follows l i p r rest e

module _ (s : List ℕ) (count : ℕ) (v : verdict_of (image_of s) ≡ Ok count) where
  pub record_follows : (i : ℕ) (a : Standing s i) (b : Standing s (i + 1)) → follows a.r b.r ≡ true
  record_follows i a b =
      next-follows (records-later s (records_of (image_of s)) (is-sound (image_of s) count v)) i a.r b.r (drop (i + 1 + 1) (records_of (image_of s))) (rw (a.here, b.here))

  rises : (i : ℕ) → i + 1 < count → tag_of s i ≤ tag_of s (i + 1)
  rises i h =
      let a = standing_of s count v i (omega arith) in
      let b = standing_of s count v (i + 1) h in
      rw (a.tag, b.tag) (follows-after a.r b.r (record_follows i a b)).tags

-- The search by halves for the first record whose tag is not below this one

abbrev pub below : List ℕ → ℕ → ℕ → Type 0
below s tag i = tag_of s i < tag

abbrev pub not_below : List ℕ → ℕ → ℕ → Type 0
not_below s tag i = tag ≤ tag_of s i

pub tags-sorted : (s : List ℕ) (count tag : ℕ) → verdict_of (image_of s) ≡ Ok count → Sorted (below s tag) (not_below s tag) 0 count
tags-sorted s count tag v = by_neighbours (λ i h k b. omega (arith, rises s count v i k, b)) (λ i h k b. omega (arith, rises s count v i k, b))

pub first_found : {s : List ℕ} {count tag low high : ℕ} → Halved (below s tag) (not_below s tag) 0 count low high → high ≤ low → FirstFrom s count tag low
first_found w h =
    record { few = omega (arith, w.ends, w.forward); below = λ i k. w.below i (omega arith) k; above = λ i k l. w.above i (omega (arith, h, k)) l }

-- two such searches give a run
pub run-between : (s : List ℕ) (count low high from until : ℕ) → low ≤ high → FirstFrom s count low from → FirstFrom s count (high + 1) until
    → RunOf s count (record { low = low; high = high; from = from; until = until })
run-between s count low high from until h a b = record {
  forward = by_order (leb from until) refl;
  ends = b.few;
  before = a.below;
  inside = λ i k l. (a.above i k (omega (arith, l, b.few)), omega (arith, b.below i l));
  behind = λ i k l. omega (arith, b.above i k l);
}
  where
    by_order : (t : Bool) → leb from until ≡ t → from ≤ until
    by_order true e = leb-true from until e
    by_order false e =
        let k : until < from = leb-false from until e in
        absurd (omega (arith, a.below until k, b.above until (le_refl until) (omega (arith, a.few))))
