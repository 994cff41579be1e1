-- Laws of runs: one step, two runs that overlap, and runs over the parts of a list.
use mathlib.Core.Path.{◌≡◌, refl, sym, ap, ◌∙◌}
use mathlib.Core.Bool.{Bool, true, false, ◌&&◌}
use mathlib.Core.List.{List, [], ◌∷◌}
use Prim.Native.Nat.{ℕ, zero, suc, ◌+◌, ◌-◌, ◌≤◌, ◌<◌, zero-le, suc-le-suc}
use borrow.Author.Tests.{ltb-true, ltb-false}
use native.Mathlib.Omega.{arith}
use native.Mathlib.Numerals.{add-one}
use lib.Dec.{ltb}
use lib.ListN.{length, get_or, take, drop, length-drop}
use lib.Seq.{length-take-le, get_or-drop, get_or-take}
use Rattle.octets.specs.Lists.{every}
use Rattle.octets.proofs.Connectives.{and_left, and_right}
use Rattle.texts.specs.Run.{run}

pub equal_if : (a b : Bool) → (a ≡ true → b ≡ true) → (b ≡ true → a ≡ true) → a ≡ b
equal_if true b f g = sym (f refl)
equal_if false true f g = g refl
equal_if false false f g = refl

pub and_both : (a b : Bool) → a ≡ true → b ≡ true → (a && b) ≡ true
and_both a b d e = rw (d, e)

module _ (q : ℕ → Bool) (at : ℕ) where
  pub run_step : (i : ℕ) → run q at (i + 1) ≡ (run q at i && q (at + i))
  unfolding run
  run_step i = rw add-one

  pub run-true : (n : ℕ) → run q at n ≡ true → (i : ℕ) → i < n → q (at + i) ≡ true
  unfolding run
  run-true zero e i h = absurd (omega arith)
  run-true (suc n) e i h = pick (ltb i n) refl (run-true n (and_left (run q at n) (q (at + n)) e) i)
    where
      pick : (t : Bool) → ltb i n ≡ t → (i < n → q (at + i) ≡ true) → q (at + i) ≡ true
      pick true p k = k (ltb-true i n p)
      pick false p k =
          let d : i ≡ n = omega (arith, ltb-false i n p) in
          rw d (and_right (run q at n) (q (at + n)) e)

  pub true-run : (n : ℕ) → ((i : ℕ) → i < n → q (at + i) ≡ true) → run q at n ≡ true
  unfolding run
  true-run zero f = refl
  true-run (suc n) f = and_both _ _ (true-run n (λ i h. f i (omega arith))) (f n (omega arith))

module _ (q : ℕ → Bool) (n : ℕ) where
  pub first-true : run q 0 n ≡ true → (i : ℕ) → i < n → q i ≡ true
  first-true e i h =
      let d : 0 + i ≡ i = omega arith in
      rw d at (run-true q 0 n e i h)

  pub true-first : ((i : ℕ) → i < n → q i ≡ true) → run q 0 n ≡ true
  true-first f = true-run q 0 n (λ i h. let d : 0 + i ≡ i = omega arith in rw d (f i h))

-- the first k and the last l of n, which overlap or touch
module _ (q : ℕ → Bool) (k l n : ℕ) (h : k ≤ n) (g : l ≤ n) (m : n ≤ k + l) where
  pub run_ends : (run q 0 k && run q (n - l) l) ≡ run q 0 n
  run_ends = equal_if _ _
      (λ e. true-first q n (λ i j. pick e i j (ltb i k) refl))
      (λ e. and_both _ _ (true-first q k (λ i j. first-true q n e i (omega arith)))
      (true-run q (n - l) l (λ i j. first-true q n e (n - l + i) (omega arith))))
    where
      pick : (run q 0 k && run q (n - l) l) ≡ true → (i : ℕ) → i < n → (t : Bool) → ltb i k ≡ t → q i ≡ true
      pick e i j true p = first-true q k (and_left (run q 0 k) (run q (n - l) l) e) i (ltb-true i k p)
      pick e i j false p =
          let d : n - l + (i - (n - l)) ≡ i = omega (arith, ltb-false i k p) in
          rw d at (run-true q (n - l) l (and_right (run q 0 k) (run q (n - l) l) e) (i - (n - l)) (omega (arith, ltb-false i k p)))

-- the first k, the next k and the last k of n
pub run_thirds : (q : ℕ → Bool) (k n : ℕ) → k + k ≤ n → n ≤ k + k + k → (run q 0 k && run q k k && run q (n - k) k) ≡ run q 0 n
run_thirds q k n h g =
    let d : k + k - k ≡ k = omega arith in
    ap (λ (b : Bool). b && run q (n - k) k) (rw d at (run_ends q k k (k + k) (omega arith) (omega arith) (omega arith)))
    ∙ run_ends q (k + k) k n h (omega arith) (omega arith)

module _ (p : ℕ → Bool) where
  pub every_true : (s : List ℕ) → every p s ≡ true → (i : ℕ) → i < length s → p (get_or s i 0) ≡ true
  unfolding every
  every_true [] e i h = absurd (omega arith)
  every_true (b ∷ bs) e zero h = and_left (p b) (every p bs) e
  every_true (b ∷ bs) e (suc i) h = every_true bs (and_right (p b) (every p bs) e) i (omega arith)

  pub true-every : (s : List ℕ) → ((i : ℕ) → i < length s → p (get_or s i 0) ≡ true) → every p s ≡ true
  unfolding every
  true-every [] f = refl
  true-every (b ∷ bs) f = and_both _ _ (f 0 (suc-le-suc zero-le)) (true-every bs (λ i h. f (suc i) (suc-le-suc h)))

  run-every : (s : List ℕ) → run (λ i. p (get_or s i 0)) 0 (length s) ≡ every p s
  run-every s = equal_if _ _
      (λ e. true-every s (λ i h. first-true _ (length s) e i h))
      (λ e. true-first _ (length s) (λ i h. every_true s e i h))

  -- a test of each element of a part of s
  pub every-part : (s : List ℕ) (at n : ℕ) → at + n ≤ length s → every p (take n (drop at s)) ≡ run (λ i. p (get_or s i 0)) at n
  every-part s at n h = equal_if _ _
      (λ e. true-run _ at n (λ i k. rw (← inside i k) (every_true part e i (omega (arith, len)))))
      (λ e. true-every part (λ i k. let j : i < n = omega (arith, len) in rw (inside i j) (run-true _ at n e i j)))
    where
      part : List ℕ
      part = take n (drop at s)

      len : length part ≡ n
      len = length-take-le n (drop at s) (simp length-drop (omega arith))

      inside : (i : ℕ) → i < n → get_or part i 0 ≡ get_or s (at + i) 0
      inside i k = get_or-take n (drop at s) i 0 k ∙ get_or-drop at s i 0

  -- one element more
  pub every-step : (s : List ℕ) (i : ℕ) → i < length s → every p (take (i + 1) s) ≡ (every p (take i s) && p (get_or s i 0))
  every-step s i h =
      let d : 0 + i ≡ i = omega arith in
      rw (every-part s 0 (i + 1) (omega arith), every-part s 0 i (omega arith)) (rw d at (run_step (λ i. p (get_or s i 0)) 0 i))

  -- of all of s, by the first k and the last k, or by the first k, the next k and the last k, which overlap or touch

  pub every-ends : (s : List ℕ) (k : ℕ) → k ≤ length s → length s ≤ k + k
      → (every p (take k s) && every p (take (length s - (length s - k)) (drop (length s - k) s))) ≡ every p s
  every-ends s k h g =
      let e : length s - (length s - k) ≡ k = omega arith in
      rw (e, every-part s 0 k (omega arith), every-part s (length s - k) k (omega arith)) (run_ends _ k k (length s) h h g ∙ run-every s)

  pub every-thirds : (s : List ℕ) (k : ℕ) → k + k ≤ length s → length s ≤ k + k + k
      → (every p (take k s) && every p (take (k + k - k) (drop k s)) && every p (take (length s - (length s - k)) (drop (length s - k) s))) ≡ every p s
  every-thirds s k h g =
      let e : length s - (length s - k) ≡ k = omega arith in
      let d : k + k - k ≡ k = omega arith in
      rw (e, d, every-part s 0 k (omega arith), every-part s k k h, every-part s (length s - k) k (omega arith)) (run_thirds _ k (length s) h g ∙ run-every s)
