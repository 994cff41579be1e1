-- The search by halves, once for every sorted run: each step looks at one element, which comes before what is sought, behind it, or is it.
use Prim.Native.Nat.{ℕ, zero, suc, ◌+◌, ◌-◌, ◌^◌, ◌/◌, ◌≤◌, ◌<◌}
use mathlib.Core.Path.{◌≡◌, refl, subst}
use mathlib.Core.Bool.{Bool, true, false}
use native.Mathlib.Nat.{two-pow-succ}
use native.Mathlib.Omega.{arith}
use borrow.Author.Tests.{ltb-true, ltb-false}
use lib.Dec.{ltb}

-- what comes before what is sought comes first in the run, and what comes behind it comes last
pub record Sorted (before behind : ℕ → Type 0) (from until : ℕ) : Type 0 where
  pub down : (i j : ℕ) → from ≤ i → i ≤ j → j < until → before j → before i
  pub up : (i j : ℕ) → from ≤ i → i ≤ j → j < until → behind i → behind j

-- what each number hands on to the next
pub carried : (p : ℕ → Type 0) (i j : ℕ) → i ≤ j → p i → ((m : ℕ) → i ≤ m → m < j → p m → p (m + 1)) → p j
carried p i j h x on = by_distance (j - i) i (omega arith) x on
  where
    by_distance : (n i : ℕ) → i + n ≡ j → p i → ((m : ℕ) → i ≤ m → m < j → p m → p (m + 1)) → p j
    by_distance zero i e x on = let f : i ≡ j = omega arith in subst p f x
    by_distance (suc n) i e x on = by_distance n (i + 1) (omega arith) (on i (omega arith) (omega arith) x) (λ m h k. on m (omega arith) k)

-- neighbours are enough
pub by_neighbours :
    {before behind : ℕ → Type 0} {from until : ℕ} → ((i : ℕ) → from ≤ i → i + 1 < until → before (i + 1) → before i)
    → ((i : ℕ) → from ≤ i → i + 1 < until → behind i → behind (i + 1)) → Sorted before behind from until
by_neighbours {before} {behind} down up = record {
  down = λ i j h k l b. carried (λ (m : ℕ). before m → before i) i j k (λ x. x) (λ m p q f x. f (down m (omega arith) (omega arith) x)) b;
  up = λ i j h k l b. carried behind i j k b (λ m p q x. up m (omega arith) (omega arith) x);
}

-- the elements before low come before what is sought, those from high on behind it
pub record Halved (before behind : ℕ → Type 0) (from until low high : ℕ) : Type 0 where
  pub starts : from ≤ low
  pub forward : low ≤ high
  pub ends : high ≤ until
  pub below : (i : ℕ) → from ≤ i → i < low → before i
  pub above : (i : ℕ) → high ≤ i → i < until → behind i

module _ {before behind : ℕ → Type 0} {from until : ℕ} where
  pub halve_none : from ≤ until → Halved before behind from until from until
  halve_none h = record {
    starts = omega arith;
    forward = h;
    ends = omega arith;
    below = λ i k l. absurd (omega (arith, k, l));
    above = λ i k l. absurd (omega (arith, k, l));
  }

  module _ (o : Sorted before behind from until) (low high i : ℕ) (w : Halved before behind from until low high) (a : low ≤ i) (b : i < high) where
    pub halve_up : before i → Halved before behind from until (i + 1) high
    halve_up h = record {
      starts = omega (arith, w.starts);
      forward = omega arith;
      ends = w.ends;
      below = λ j k l. o.down j i k (omega (arith, l)) (omega (arith, w.ends)) h;
      above = w.above;
    }

    pub halve_down : behind i → Halved before behind from until low i
    halve_down h = record {
      starts = w.starts;
      forward = a;
      ends = omega (arith, w.ends);
      below = w.below;
      above = λ j k l. o.up i j (omega (arith, w.starts)) k l h;
    }

-- fewer than 2 ^ k elements are left; a step leaves at most half of them, so that k steps are enough
pub fewer : (k n m : ℕ) → 0 < n → n < 2 ^ k → m ≤ n / 2 → (0 < k) × (m < 2 ^ (k - 1))
fewer zero n m h l j = absurd (omega arith)
fewer (suc k) n m h l j =
    let e : suc k - 1 ≡ k = omega arith in
    (omega arith, rw e (omega (arith, two-pow-succ k)))

-- a search for a number: what comes before it, and the rest
pub by_number : (t from until : ℕ) → Sorted (λ i. i < t) (λ i. t ≤ i) from until
by_number t from until = record { down = λ i j h k l b. omega (arith, b); up = λ i j h k l b. omega (arith, b) }

pub number-found : {t until low high : ℕ} → t ≤ until → Halved (λ i. i < t) (λ i. t ≤ i) 0 until low high → high ≤ low → low ≡ t
number-found {t} {until} {low} {high} h w e = at-most-both (up_to low w.below) (from_on w.above)
  where
    up_to : (n : ℕ) → ((i : ℕ) → 0 ≤ i → i < n → i < t) → n ≤ t
    up_to zero f = omega arith
    up_to (suc n) f = omega (arith, f n (omega arith) (omega arith))

    from_on : ((i : ℕ) → high ≤ i → i < until → t ≤ i) → t ≤ low
    from_on f = by-room (ltb low until) refl
      where
        by-room : (v : Bool) → ltb low until ≡ v → t ≤ low
        by-room true p = f low (omega arith) (ltb-true low until p)
        by-room false p = omega (arith, ltb-false low until p)

    at-most-both : low ≤ t → t ≤ low → low ≡ t
    at-most-both a b = omega arith
