-- The runs of zeros among groups: the one that is shortened stands where it is said to stand; and the runs from a place on, for one pass from the back.
use Prim.Native.Nat.{ℕ, zero, suc, ◌+◌, ◌-◌, ◌≤◌, ◌<◌, max}
use mathlib.Core.Path.{◌≡◌, refl, sym, ap, ◌∙◌}
use mathlib.Core.List.{List, [], ◌∷◌, ◌++◌}
use mathlib.Core.Bool.{Bool, true, false, cond}
use native.Mathlib.Omega.{arith}
use lib.Dec.{eqb, leb}
use lib.ListN.{length, get_or, take, drop, replicate, length-append, length-drop, length-replicate, take-append-drop}
use lib.Seq.{drop-length, drop-drop, drop-cons}
use borrow.Author.Tests.{le-leb, lt-leb, leb-true, leb-false, eq-eqb, ne_eqb, eqb-true}
use Rattle.ip_groups.specs.Groups.{zeros_first, longest_run, run_at}
use Rattle.ip_groups.specs.Runs.{RunsOf}

-- ---- the run of zeros

-- the zeros that stand first
pub zeros-front : (n : ℕ) (gs : List ℕ) → n ≤ zeros_first gs → gs ≡ replicate n 0 ++ drop n gs
unfolding zeros_first
zeros-front zero gs h = refl
zeros-front (suc n) [] h = let z : ⊥ = omega arith in absurd z
zeros-front (suc n) (g ∷ gs) h = by_first (eqb g 0) refl h (zeros-front n gs)
  where
    by_first : (b : Bool) → eqb g 0 ≡ b → suc n ≤ cond b (suc (zeros_first gs)) 0 → (n ≤ zeros_first gs → gs ≡ replicate n 0 ++ drop n gs)
        → g ∷ gs ≡ 0 ∷ (replicate n 0 ++ drop n gs)
    by_first true e k f =
        rw (eqb-true g 0 e) (ap (λ (r : List ℕ). 0 ∷ r) (f (omega arith)))
    by_first false e k f = let z : ⊥ = omega arith in absurd z

run-there : (n : ℕ) (gs : List ℕ) → n ≤ longest_run gs → n ≤ zeros_first (drop (run_at n gs) gs)
unfolding longest_run run_at
run-there n [] h = omega arith
run-there n (g ∷ gs) h = by_first (leb n (zeros_first (g ∷ gs))) refl (run-there n gs)
  where
    by_first : (b : Bool) → leb n (zeros_first (g ∷ gs)) ≡ b → (n ≤ longest_run gs → n ≤ zeros_first (drop (run_at n gs) gs))
        → n ≤ zeros_first (drop (cond b 0 (suc (run_at n gs))) (g ∷ gs))
    by_first true e f = leb-true n (zeros_first (g ∷ gs)) e
    by_first false e f = f (omega (arith, leb-false n (zeros_first (g ∷ gs)) e))

-- what stands before the longest run, the zeros, and what stands after it
pub around-run : (n : ℕ) (gs : List ℕ) → n ≤ longest_run gs
    → gs ≡ take (run_at n gs) gs ++ (replicate n 0 ++ drop (run_at n gs + n) gs)
around-run n gs h =
    let at : ℕ = run_at n gs in
    sym (take-append-drop at gs)
    ∙ ap (λ (r : List ℕ). take at gs ++ r)
    (zeros-front n (drop at gs) (run-there n gs h) ∙ ap (λ (r : List ℕ). replicate n 0 ++ r) (drop-drop n at gs))

-- how many groups stand beside it
pub beside-run : (gs : List ℕ) → length (take (run_at (longest_run gs) gs) gs) + (longest_run gs + length (drop (run_at (longest_run gs) gs + longest_run gs) gs)) ≡ length gs
beside-run gs =
    let n : ℕ = longest_run gs in
    let l : List ℕ = take (run_at n gs) gs in
    let r : List ℕ = drop (run_at n gs + n) gs in
    omega (arith, ap length (around-run n gs (omega arith)), length-append l (replicate n 0 ++ r), length-append (replicate n 0) r, length-replicate {A = ℕ} n 0)

-- ---- the runs of zeros from place i on

pub record RunsFrom (gs : List ℕ) (i first longest at : ℕ) : Type 0 where
  pub front : first ≡ zeros_first (drop i gs)
  pub most : longest ≡ longest_run (drop i gs)
  pub found_at : at ≡ i + run_at (longest_run (drop i gs)) (drop i gs)

pub runs_none : (gs : List ℕ) → RunsFrom gs (length gs) 0 0 (length gs)
unfolding zeros_first longest_run run_at
runs_none gs =
    let e : drop (length gs) gs ≡ [] = drop-length gs in
    record {
      front = sym (ap zeros_first e);
      most = sym (ap longest_run e);
      found_at = omega (arith, ap (λ (l : List ℕ). run_at (longest_run l) l) e);
    }

pub runs_all : {gs : List ℕ} {i first longest at : ℕ} → i ≡ 0 → RunsFrom gs i first longest at → RunsOf gs first longest at
runs_all {gs} {i} z r =
    let e : drop i gs ≡ gs = ap (λ (k : ℕ). drop k gs) z in
    record {
      front = r.front ∙ ap zeros_first e;
      run = record { most = r.most ∙ ap longest_run e; found_at = r.found_at ∙ omega (arith, ap (λ (l : List ℕ). run_at (longest_run l) l) e) };
    }

zeros-most : (gs : List ℕ) → zeros_first gs ≤ length gs
unfolding zeros_first
zeros-most [] = omega arith
zeros-most (g ∷ gs) = by_first (eqb g 0) (zeros-most gs)
  where
    by_first : (b : Bool) → zeros_first gs ≤ length gs → cond b (suc (zeros_first gs)) 0 ≤ suc (length gs)
    by_first true h = omega arith
    by_first false h = omega arith

pub first-most : {gs : List ℕ} {i first longest at : ℕ} → RunsFrom gs i first longest at → first ≤ length gs
first-most {gs} {i} r = omega (arith, r.front, zeros-most (drop i gs), length-drop i gs)

-- a zero, or another group, at place j
module _ (gs : List ℕ) (j : ℕ) (inside : j < length gs) where
  pub zero-here : get_or gs j 0 ≡ 0 → zeros_first (drop j gs) ≡ suc (zeros_first (drop (suc j) gs))
  unfolding zeros_first
  zero-here e = rw (drop-cons gs j 0 inside, eq-eqb (get_or gs j 0) 0 e)

  pub other-here : (get_or gs j 0 ≡ 0 → ⊥) → zeros_first (drop j gs) ≡ 0
  unfolding zeros_first
  other-here f = rw (drop-cons gs j 0 inside, ne_eqb (get_or gs j 0) 0 f)

  most-here : longest_run (drop j gs) ≡ max (zeros_first (drop j gs)) (longest_run (drop (suc j) gs))
  unfolding longest_run
  most-here = rw (drop-cons gs j 0 inside)

  start-here : (n : ℕ) → n ≤ zeros_first (drop j gs) → run_at n (drop j gs) ≡ 0
  unfolding run_at
  start-here n h = rw (drop-cons gs j 0 inside, le-leb n (zeros_first (get_or gs j 0 ∷ drop (suc j) gs)) (rw (drop-cons gs j 0 inside) at h))

  start-later : (n : ℕ) → zeros_first (drop j gs) < n → run_at n (drop j gs) ≡ suc (run_at n (drop (suc j) gs))
  unfolding run_at
  start-later n h = rw (drop-cons gs j 0 inside, lt-leb n (zeros_first (get_or gs j 0 ∷ drop (suc j) gs)) (rw (drop-cons gs j 0 inside) at h))

  module _ {first₁ longest at first : ℕ} (r : RunsFrom gs (suc j) first₁ longest at) (now : first ≡ zeros_first (drop j gs)) where
    -- the run here is as long as any later one
    pub run-here : longest ≤ first → RunsFrom gs j first first j
    run-here h =
        let m : longest_run (drop j gs) ≡ first = omega (arith, most-here, r.most) in
        record { front = now; most = sym m; found_at = omega (arith, start-here (longest_run (drop j gs)) (omega arith)) }

    -- a later one is longer
    pub run-later : first < longest → RunsFrom gs j first longest at
    run-later h =
        let m : longest_run (drop j gs) ≡ longest = omega (arith, most-here, r.most) in
        let l : longest_run (drop j gs) ≡ longest_run (drop (suc j) gs) = m ∙ r.most in
        record {
          front = now;
          most = sym m;
          found_at = omega (arith, r.found_at, start-later (longest_run (drop j gs)) (omega arith), ap (λ (n : ℕ). run_at n (drop (suc j) gs)) l);
        }

-- the same for a loop that goes down from i
module _ {gs : List ℕ} {i before longest at : ℕ} (some_left : 0 < i) (inside : i ≤ length gs) (r : RunsFrom gs i before longest at) where
  this : suc (i - 1) ≡ i
  this = omega arith

  lower : RunsFrom gs (suc (i - 1)) before longest at
  lower = rw this r

  pub zero-before : get_or gs (i - 1) 0 ≡ 0 → before + 1 ≡ zeros_first (drop (i - 1) gs)
  zero-before e = omega (arith, lower.front, zero-here gs (i - 1) (omega arith) e)

  pub other-before : (get_or gs (i - 1) 0 ≡ 0 → ⊥) → 0 ≡ zeros_first (drop (i - 1) gs)
  other-before f = sym (other-here gs (i - 1) (omega arith) f)

  pub run-before : {first : ℕ} → first ≡ zeros_first (drop (i - 1) gs) → longest ≤ first → RunsFrom gs (i - 1) first first (i - 1)
  run-before e h = run-here gs (i - 1) (omega arith) lower e h

  pub later-before : {first : ℕ} → first ≡ zeros_first (drop (i - 1) gs) → first < longest → RunsFrom gs (i - 1) first longest at
  later-before e h = run-later gs (i - 1) (omega arith) lower e h
