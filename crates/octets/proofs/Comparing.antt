-- How two texts sort from a position on, by the bytes there; and that the order that std gives to two slices of bytes is that of two texts.
use mathlib.Core.Path.{◌≡◌, refl, sym}
use mathlib.Core.Bool.{Bool, true, false, cond}
use mathlib.Core.List.{List, [], ◌∷◌}
use Prim.Native.Nat.{ℕ, suc, ◌+◌, ◌<◌, ◌≤◌, min}
use native.Mathlib.Decide.{dec_lt}
use native.Mathlib.Numerals.{add-one}
use borrow.Author.Tests.{ltb-true, ltb-false, lt-ltb, le-ltb, eq-eqb, ne_eqb}
use native.Mathlib.Omega.{arith}
use native.Mathlib.Nat.{le_of_lt}
use lib.Dec.{ltb}
use lib.ListN.{length, get_or, drop, drop_of_length-le}
use lib.Seq.{drop-cons}
use Rattle.std.specs.Ordering.{nat_cmp, ordering_then}
use Rattle.std.specs.declared.cmp.Ordering.TheVariants.{Less, Equal, Greater}
use Rattle.std.specs.Cmp.Lexicographic.{slice_cmp}
use Rattle.octets.specs.Number.{at_most}
use Rattle.octets.specs.Order.{compared}
use Rattle.octets.proofs.Order.{is-less, is-equal, is_greater, is_same}

-- by the order

module _ (x y : List ℕ) (i : ℕ) (p : i < length x) (q : i < length y) where
  pub below : get_or x i 0 < get_or y i 0 → at_most (drop i x) (drop i y) ≡ true
  unfolding at_most
  below h = rw (drop-cons x i 0, drop-cons y i 0) (simp (lt-ltb _ _ h))

  pub above : get_or y i 0 < get_or x i 0 → at_most (drop i x) (drop i y) ≡ false
  unfolding at_most
  above h = rw (drop-cons x i 0, drop-cons y i 0) (simp (le-ltb _ _ (le_of_lt h), lt-ltb _ _ h))

  pub onward : get_or x i 0 ≤ get_or y i 0 → get_or y i 0 ≤ get_or x i 0 → at_most (drop i x) (drop i y) ≡ at_most (drop (suc i) x) (drop (suc i) y)
  unfolding at_most
  onward h k = rw (drop-cons x i 0, drop-cons y i 0) (simp (le-ltb _ _ h, le-ltb _ _ k))

module _ (x y : List ℕ) (i : ℕ) where
  done : length x ≤ i → at_most (drop i x) (drop i y) ≡ true
  unfolding at_most
  done h = rw (drop_of_length-le x h)

  over : i < length x → length y ≤ i → at_most (drop i x) (drop i y) ≡ false
  unfolding at_most
  over h k = rw (drop_of_length-le y k, drop-cons x i 0)

-- as one value

module _ (x y : List ℕ) (i : ℕ) (p : i < length x) (q : i < length y) where
  pub less : get_or x i 0 < get_or y i 0 → compared (drop i x) (drop i y) ≡ Less
  less h = is-less _ _ (below x y i p q h) (above y x i q p h)

  pub greater : get_or y i 0 < get_or x i 0 → compared (drop i x) (drop i y) ≡ Greater
  greater h = is_greater _ _ (above x y i p q h)

  pub equal : get_or x i 0 ≤ get_or y i 0 → get_or y i 0 ≤ get_or x i 0 → compared (drop i x) (drop i y) ≡ compared (drop (suc i) x) (drop (suc i) y)
  equal h k = is_same _ _ _ _ (onward x y i p q h k) (onward y x i q p k h)

  -- the bytes at i: they differ, and their order decides, or they are the same
  pub byte-differs : (get_or x i 0 ≡ get_or y i 0 → ⊥) → nat_cmp (get_or x i 0) (get_or y i 0) ≡ compared (drop i x) (drop i y)
  byte-differs n = by_order (dec_lt (get_or x i 0) (get_or y i 0))
    where
      by_order : Dec (get_or x i 0 < get_or y i 0) → nat_cmp (get_or x i 0) (get_or y i 0) ≡ compared (drop i x) (drop i y)
      by_order (yes h) = rw (lt-ltb _ _ h, less h)
      by_order (no h) =
          let g : get_or y i 0 < get_or x i 0 = omega arith in
          rw (le-ltb (get_or x i 0) (get_or y i 0) (omega arith), ne_eqb (get_or x i 0) (get_or y i 0) n, greater g)

  pub byte_same : get_or x i 0 ≡ get_or y i 0 → compared (drop (i + 1) x) (drop (i + 1) y) ≡ compared (drop i x) (drop i y)
  byte_same e = rw add-one (sym (equal (omega arith) (omega arith)))

module _ (x y : List ℕ) (i : ℕ) where
  pub longer : i < length x → length y ≤ i → compared (drop i x) (drop i y) ≡ Greater
  longer h k = is_greater _ _ (over x y i h k)

  pub shorter : length x ≤ i → i < length y → compared (drop i x) (drop i y) ≡ Less
  shorter h k = is-less _ _ (done x y i h) (over y x i k h)

  pub both_end : length x ≤ i → length y ≤ i → compared (drop i x) (drop i y) ≡ Equal
  both_end h k = is-equal _ _ (done x y i h) (done y x i k)

  -- where one of them ends at i, the shorter one comes first
  pub ends-decide : min (length x) (length y) ≤ i → i ≤ length x → i ≤ length y → nat_cmp (length x) (length y) ≡ compared (drop i x) (drop i y)
  ends-decide m h k = by_order (dec_lt (length x) (length y)) (dec_lt (length y) (length x))
    where
      by_order : Dec (length x < length y) → Dec (length y < length x) → nat_cmp (length x) (length y) ≡ compared (drop i x) (drop i y)
      by_order (yes s) _ = rw (lt-ltb _ _ s, shorter (omega arith) (omega arith))
      by_order (no s) (yes l) = rw (le-ltb (length x) (length y) (omega arith), ne_eqb (length x) (length y) (λ e. omega arith), longer (omega arith) (omega arith))
      by_order (no s) (no l) = rw (le-ltb (length x) (length y) (omega arith), eq-eqb (length x) (length y) (omega arith), both_end (omega arith) (omega arith))

-- the order of slices

pub slice-compared : (a b : List ℕ) → slice_cmp nat_cmp a b ≡ compared a b
unfolding compared at_most
slice-compared [] [] = refl
slice-compared [] (y ∷ b) = refl
slice-compared (x ∷ a) [] = refl
slice-compared (x ∷ a) (y ∷ b) = by_first (ltb x y) (ltb y x) refl refl (slice-compared a b)
  where
    by_first : (s t : Bool) → ltb x y ≡ s → ltb y x ≡ t → slice_cmp nat_cmp a b ≡ compared a b
        → ordering_then (nat_cmp x y) (slice_cmp nat_cmp a b)
        ≡ cond (cond (ltb x y) true (cond (ltb y x) false (at_most a b))) (cond (cond (ltb y x) true (cond (ltb x y) false (at_most b a))) Equal Less) Greater
    by_first true true p q k = let f = ltb-true x y p in let g = ltb-true y x q in absurd (omega arith)
    by_first true false p q k = rw (p, q)
    by_first false true p q k = let g = ltb-true y x q in rw (p, q, ne_eqb x y (λ e. omega arith))
    by_first false false p q k = let e : x ≡ y = omega (arith, ltb-false x y p, ltb-false y x q) in rw (p, q, eq-eqb x y e) k
