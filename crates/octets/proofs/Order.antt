-- The order of texts (S4.6) is total, and one comparison tells how two of them sort.
use mathlib.Core.Path.{◌≡◌, refl, sym, ap, ap₂, ◌∙◌}
use mathlib.Core.Bool.{Bool, true, false, cond, false≢true}
use mathlib.Core.Logic.{◌⊎◌, inl, inr}
use mathlib.Core.List.{List, [], ◌∷◌}
use Prim.Native.Nat.{ℕ, ◌<◌}
use native.Mathlib.Omega.{arith}
use borrow.Author.Tests.{ltb-true, ltb-false, lt-ltb, le-ltb}
use lib.Dec.{ltb}
use Rattle.std.specs.Ordering.{is_le, is_ge}
use Rattle.std.specs.declared.cmp.Ordering.{Ordering}
use Rattle.std.specs.declared.cmp.Ordering.TheVariants.{Less, Equal, Greater}
use Rattle.octets.specs.Number.{at_most}
use Rattle.octets.specs.Order.{compared}

-- the first bytes decide, or they are the same and the rest does
at-most-cases : (x y : ℕ) (xs ys : List ℕ) → at_most (x ∷ xs) (y ∷ ys) ≡ true → (x < y) ⊎ ((x ≡ y) × (at_most xs ys ≡ true))
unfolding at_most
at-most-cases x y xs ys e = by_tests (ltb x y) (ltb y x) refl refl e
  where
    by_tests : (t u : Bool) → ltb x y ≡ t → ltb y x ≡ u → cond t true (cond u false (at_most xs ys)) ≡ true → (x < y) ⊎ ((x ≡ y) × (at_most xs ys ≡ true))
    by_tests true u p q k = inl (ltb-true x y p)
    by_tests false true p q k = absurd (false≢true k)
    by_tests false false p q k = inr (omega (arith, ltb-false x y p, ltb-false y x q), k)

at-most-first : (x y : ℕ) (xs ys : List ℕ) → x < y → at_most (x ∷ xs) (y ∷ ys) ≡ true
unfolding at_most
at-most-first x y xs ys h = rw (lt-ltb x y h)

at-most-rest : (x y : ℕ) (xs ys : List ℕ) → x ≡ y → at_most xs ys ≡ true → at_most (x ∷ xs) (y ∷ ys) ≡ true
unfolding at_most
at-most-rest x y xs ys h k = rw (le-ltb x y (omega arith), le-ltb y x (omega arith)) k

pub at-most-refl : (a : List ℕ) → at_most a a ≡ true
unfolding at_most
at-most-refl [] = refl
at-most-refl (x ∷ a) = at-most-rest x x a a refl (at-most-refl a)

pub at-most_trans : (a b c : List ℕ) → at_most a b ≡ true → at_most b c ≡ true → at_most a c ≡ true
unfolding at_most
at-most_trans [] b c e f = refl
at-most_trans (x ∷ a) [] c e f = absurd (false≢true e)
at-most_trans (x ∷ a) (y ∷ b) [] e f = absurd (false≢true f)
at-most_trans (x ∷ a) (y ∷ b) (z ∷ c) e f = by_cases (at-most-cases x y a b e) (at-most-cases y z b c f) (λ p q. at-most_trans a b c p q)
  where
    by_cases : (x < y) ⊎ ((x ≡ y) × (at_most a b ≡ true)) → (y < z) ⊎ ((y ≡ z) × (at_most b c ≡ true))
        → (at_most a b ≡ true → at_most b c ≡ true → at_most a c ≡ true) → at_most (x ∷ a) (z ∷ c) ≡ true
    by_cases (inl p) (inl q) onward = at-most-first x z a c (omega arith)
    by_cases (inl p) (inr q) onward = at-most-first x z a c (omega (arith, q.0))
    by_cases (inr p) (inl q) onward = at-most-first x z a c (omega (arith, p.0))
    by_cases (inr p) (inr q) onward = at-most-rest x z a c (p.0 ∙ q.0) (onward p.1 q.1)

pub at-most-both : (a b : List ℕ) → at_most a b ≡ true → at_most b a ≡ true → a ≡ b
unfolding at_most
at-most-both [] [] e f = refl
at-most-both [] (y ∷ b) e f = absurd (false≢true f)
at-most-both (x ∷ a) [] e f = absurd (false≢true e)
at-most-both (x ∷ a) (y ∷ b) e f = by_cases (at-most-cases x y a b e) (at-most-cases y x b a f) (at-most-both a b)
  where
    by_cases : (x < y) ⊎ ((x ≡ y) × (at_most a b ≡ true)) → (y < x) ⊎ ((y ≡ x) × (at_most b a ≡ true)) → (at_most a b ≡ true → at_most b a ≡ true → a ≡ b)
        → x ∷ a ≡ y ∷ b
    by_cases (inl p) (inl q) onward = absurd (omega arith)
    by_cases (inl p) (inr q) onward = absurd (omega (arith, q.0))
    by_cases (inr p) (inl q) onward = absurd (omega (arith, p.0))
    by_cases (inr p) (inr q) onward = ap₂ ◌∷◌ p.0 (onward p.1 q.1)

pub at-most_total : (a b : List ℕ) → at_most a b ≡ false → at_most b a ≡ true
unfolding at_most
at-most_total [] b e = absurd (false≢true (sym e))
at-most_total (x ∷ a) [] e = refl
at-most_total (x ∷ a) (y ∷ b) e = by_tests (ltb x y) (ltb y x) refl refl e (at-most_total a b)
  where
    by_tests : (t u : Bool) → ltb x y ≡ t → ltb y x ≡ u → cond t true (cond u false (at_most a b)) ≡ false → (at_most a b ≡ false → at_most b a ≡ true)
        → at_most (y ∷ b) (x ∷ a) ≡ true
    by_tests true u p q k onward = absurd (false≢true (sym k))
    by_tests false true p q k onward = at-most-first y x b a (ltb-true y x q)
    by_tests false false p q k onward = at-most-rest y x b a (omega (arith, ltb-false x y p, ltb-false y x q)) (onward k)

-- b strictly after a, and c strictly after b
pub after_trans : (a b c : List ℕ) → at_most b a ≡ false → at_most c b ≡ false → at_most c a ≡ false
after_trans a b c e f = by-test (at_most c a) refl
  where
    by-test : (t : Bool) → at_most c a ≡ t → t ≡ false
    by-test false k = refl
    by-test true k = absurd (false≢true (sym f ∙ at-most_trans c a b k (at-most_total b a e)))

pub not-after-itself : (a b : List ℕ) → at_most a b ≡ false → a ≡ b → ⊥
not-after-itself a b e f = false≢true (sym e ∙ rw f (at-most-refl b))

-- The comparison

module _ (a b : List ℕ) where
  pub is-less : at_most a b ≡ true → at_most b a ≡ false → compared a b ≡ Less
  unfolding compared
  is-less e f = rw (e, f)

  pub is-equal : at_most a b ≡ true → at_most b a ≡ true → compared a b ≡ Equal
  unfolding compared
  is-equal e f = rw (e, f)

  pub is_greater : at_most a b ≡ false → compared a b ≡ Greater
  unfolding compared
  is_greater e = rw e

  pub is_same : (c d : List ℕ) → at_most a b ≡ at_most c d → at_most b a ≡ at_most d c → compared a b ≡ compared c d
  unfolding compared
  is_same c d e f = rw (e, f)

-- what it tells: whether the first is at most the second, and the second at most the first
module _ (a b : List ℕ) where
  pub told-first : {o : Ordering} → compared a b ≡ o → at_most a b ≡ is_le o
  unfolding compared
  told-first e = by_tests (at_most a b) (at_most b a) ∙ ap is_le e
    where
      by_tests : (t u : Bool) → t ≡ is_le (cond t (cond u Equal Less) Greater)
      by_tests true true = refl
      by_tests true false = refl
      by_tests false u = refl

  pub told-second : {o : Ordering} → compared a b ≡ o → at_most b a ≡ is_ge o
  unfolding compared
  told-second e = by_tests (at_most a b) (at_most b a) (at-most_total a b) ∙ ap is_ge e
    where
      by_tests : (t u : Bool) → (t ≡ false → u ≡ true) → u ≡ is_ge (cond t (cond u Equal Less) Greater)
      by_tests true true h = refl
      by_tests true false h = refl
      by_tests false u h = h refl

  pub told-equal : compared a b ≡ Equal → a ≡ b
  told-equal e = at-most-both a b (told-first e) (told-second e)
