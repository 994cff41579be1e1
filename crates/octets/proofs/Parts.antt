-- Two lists compared by parts of k bytes, each read as a number.
use mathlib.Core.Path.{◌≡◌, refl, sym, ◌∙◌}
use mathlib.Core.Bool.{Bool, true, false, cond}
use mathlib.Core.List.{List, [], ◌∷◌, ◌++◌}
use Prim.Native.Nat.{ℕ, ◌+◌, ◌<◌, ◌≤◌}
use borrow.Author.Tests.{ltb-true, le-leb, lt-leb, lt-ltb, le-ltb, ne_eqb}
use native.Mathlib.Decide.{dec_lt}
use native.Mathlib.Omega.{arith}
use native.Mathlib.Nat.{le_of_lt}
use lib.Dec.{leb, ltb}
use lib.ListN.{length, take, drop, take-append-drop}
use lib.Seq.{slice, take-add, drop-drop}
use Rattle.std.specs.Ordering.{nat_cmp}
use Rattle.std.specs.declared.cmp.Ordering.TheVariants.{Less, Greater}
use Rattle.octets.specs.Number.{value, at_most, Bytes, order}
use Rattle.octets.specs.Order.{compared}
use Rattle.octets.specs.Positions.{number_in}
use Rattle.octets.proofs.Order.{at-most-both, is-less, is_greater, is_same}
use Rattle.octets.proofs.Digits.{part-is, part_length, part_bytes}

-- lists of one length before others: their order decides, unless they are the same
at-most_append : (xs ys us vs : List ℕ) → length xs ≡ length ys
    → at_most (xs ++ us) (ys ++ vs) ≡ cond (at_most xs ys) (cond (at_most ys xs) (at_most us vs) true) false
unfolding at_most
at-most_append [] [] us vs e = refl
at-most_append [] (y ∷ ys) us vs e = absurd (omega (arith, e))
at-most_append (x ∷ xs) [] us vs e = absurd (omega (arith, e))
at-most_append (x ∷ xs) (y ∷ ys) us vs e = by_first (ltb x y) (ltb y x) refl refl (at-most_append xs ys us vs (omega (arith, e)))
  where
    by_first : (s t : Bool) → ltb x y ≡ s → ltb y x ≡ t
        → at_most (xs ++ us) (ys ++ vs) ≡ cond (at_most xs ys) (cond (at_most ys xs) (at_most us vs) true) false
        → cond s true (cond t false (at_most (xs ++ us) (ys ++ vs)))
        ≡ cond (cond s true (cond t false (at_most xs ys))) (cond (cond t true (cond s false (at_most ys xs))) (at_most us vs) true) false
    by_first true true p q k = let a = ltb-true x y p in let b = ltb-true y x q in absurd (omega arith)
    by_first true false p q k = refl
    by_first false true p q k = refl
    by_first false false p q k = k

-- words of k bytes at i
module _ (x y : List ℕ) (b : Bytes x) (d : Bytes y) (i k : ℕ) (p : i + k ≤ length x) (q : i + k ≤ length y) where
  forth : at_most (slice i (i + k) x) (slice i (i + k) y) ≡ leb (number_in x i k) (number_in y i k)
  unfolding value
  forth = order 256 (slice i (i + k) x) (slice i (i + k) y) (part_length x i k p ∙ sym (part_length y i k q)) (part_bytes x i k p b) (part_bytes y i k q d)

  back : at_most (slice i (i + k) y) (slice i (i + k) x) ≡ leb (number_in y i k) (number_in x i k)
  unfolding value
  back = order 256 (slice i (i + k) y) (slice i (i + k) x) (part_length y i k q ∙ sym (part_length x i k p)) (part_bytes y i k q d) (part_bytes x i k p b)

  split : (s : List ℕ) → i + k ≤ length s → drop i s ≡ slice i (i + k) s ++ drop (i + k) s
  split s h = rw (part-is s i k h, ← drop-drop k i s) (sym (take-append-drop k (drop i s)))

  by_words : at_most (drop i x) (drop i y)
      ≡ cond (leb (number_in x i k) (number_in y i k)) (cond (leb (number_in y i k) (number_in x i k)) (at_most (drop (i + k) x) (drop (i + k) y)) true) false
  by_words =
      rw (split x p, split y q, ← forth, ← back)
      (at-most_append (slice i (i + k) x) (slice i (i + k) y) (drop (i + k) x) (drop (i + k) y) (part_length x i k p ∙ sym (part_length y i k q)))

  below : number_in x i k < number_in y i k → at_most (drop i x) (drop i y) ≡ true
  below h = by_words ∙ rw (le-leb (number_in x i k) (number_in y i k) (le_of_lt h), lt-leb (number_in y i k) (number_in x i k) h)

  above : number_in y i k < number_in x i k → at_most (drop i x) (drop i y) ≡ false
  above h = by_words ∙ rw (lt-leb (number_in x i k) (number_in y i k) h)

  onward : number_in x i k ≤ number_in y i k → number_in y i k ≤ number_in x i k → at_most (drop (i + k) x) (drop (i + k) y) ≡ at_most (drop i x) (drop i y)
  onward h l = sym (by_words ∙ rw (le-leb (number_in x i k) (number_in y i k) h, le-leb (number_in y i k) (number_in x i k) l))

  -- lists that are the same up to i, and words of one value there
  pub word_same : take i x ≡ take i y → number_in x i k ≡ number_in y i k → take (i + k) x ≡ take (i + k) y
  word_same f e =
      let g : slice i (i + k) x ≡ slice i (i + k) y =
      at-most-both (slice i (i + k) x) (slice i (i + k) y) (forth ∙ le-leb (number_in x i k) (number_in y i k) (omega arith)) (back ∙ le-leb (number_in y i k) (number_in x i k) (omega arith))
      in
      rw (take-add i k x, take-add i k y, ← part-is x i k p, ← part-is y i k q, f, g)

-- as one value
module _ (x y : List ℕ) (b : Bytes x) (d : Bytes y) (i k : ℕ) (p : i + k ≤ length x) (q : i + k ≤ length y) where
  word-less : number_in x i k < number_in y i k → compared (drop i x) (drop i y) ≡ Less
  word-less h = is-less _ _ (below x y b d i k p q h) (above y x d b i k q p h)

  word-greater : number_in y i k < number_in x i k → compared (drop i x) (drop i y) ≡ Greater
  word-greater h = is_greater _ _ (above x y b d i k p q h)

  pub words-differ : (number_in x i k ≡ number_in y i k → ⊥) → nat_cmp (number_in x i k) (number_in y i k) ≡ compared (drop i x) (drop i y)
  words-differ n = by_order (dec_lt (number_in x i k) (number_in y i k))
    where
      by_order : Dec (number_in x i k < number_in y i k) → nat_cmp (number_in x i k) (number_in y i k) ≡ compared (drop i x) (drop i y)
      by_order (yes h) = rw (lt-ltb _ _ h, word-less h)
      by_order (no h) =
          let g : number_in y i k < number_in x i k = omega arith in
          rw (le-ltb (number_in x i k) (number_in y i k) (omega arith), ne_eqb (number_in x i k) (number_in y i k) n, word-greater g)

  pub words_same : number_in x i k ≡ number_in y i k → compared (drop (i + k) x) (drop (i + k) y) ≡ compared (drop i x) (drop i y)
  words_same e = is_same _ _ _ _ (onward x y b d i k p q (omega arith) (omega arith)) (onward y x d b i k q p (omega arith) (omega arith))
