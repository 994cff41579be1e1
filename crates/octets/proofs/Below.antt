-- Lists of numbers below a bound: what is left of one, and what is made of several.
use Prim.Native.Nat.{ℕ, zero, suc, ◌+◌, ◌<◌}
use mathlib.Core.List.{List, [], ◌∷◌, ◌++◌}
use native.Mathlib.Omega.{arith}
use lib.ListN.{take, drop, replicate, length-take, length-drop}
use lib.Seq.{get_or-take, get_or-drop}
use Rattle.octets.specs.Number.{Digits}

module _ (base : ℕ) where
  pub digits-rest : (x : ℕ) (s : List ℕ) → Digits base (x ∷ s) → Digits base s
  digits-rest x s d i h = d (suc i) (omega arith)

  pub digits-take : (n : ℕ) (s : List ℕ) → Digits base s → Digits base (take n s)
  digits-take n s d i h =
      let l = length-take n s in
      rw (get_or-take n s i 0 (omega arith)) (d i (omega arith))

  pub digits-drop : (n : ℕ) (s : List ℕ) → Digits base s → Digits base (drop n s)
  digits-drop n s d i h = rw (get_or-drop n s i 0) (d (n + i) (omega (arith, length-drop n s)))

  pub digits-none : Digits base []
  digits-none i h = absurd (omega arith)

  pub digits-cons : (x : ℕ) (s : List ℕ) → x < base → Digits base s → Digits base (x ∷ s)
  digits-cons x s h d zero k = h
  digits-cons x s h d (suc i) k = d i (omega arith)

  pub digits_append : (s t : List ℕ) → Digits base s → Digits base t → Digits base (s ++ t)
  digits_append [] t d e = e
  digits_append (x ∷ s) t d e = digits-cons x (s ++ t) (d 0 (omega arith)) (digits_append s t (digits-rest x s d) e)

  pub digits-zeros : (n : ℕ) → 0 < base → Digits base (replicate n 0)
  digits-zeros zero h = digits-none
  digits-zeros (suc n) h = digits-cons 0 (replicate n 0) h (digits-zeros n h)
