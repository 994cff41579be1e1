-- So many addresses from s on, fewer than its zeros allow: the highest bit of their number decides.
use Prim.Native.Nat.{ℕ, suc, ◌+◌, ◌-◌, ◌*◌, ◌^◌, ◌%◌, ◌≤◌, ◌<◌}
use mathlib.Core.Path.{◌≡◌, ◌∙◌}
use mathlib.Core.List.{[], ◌∷◌}
use native.Mathlib.Decide.{dec_lt}
use native.Mathlib.Nat.{pow-suc}
use native.Mathlib.Omega.{arith}
use lib.ListN.{length}
use lib.Pow.{pow_mono, pow_pos}
use Rattle.octets.specs.Positions.{Wide}
use Rattle.cidr.specs.Prefixes.{prefix, from-to, prefixes_of}
use Rattle.cidr.specs.First.{Largest, Capped, Top}
use Rattle.cidr.proofs.Multiples.{Multiple, sum, itself, finer, near, of_remainder, to_remainder}
use Rattle.cidr.proofs.Greedy.{first-prefix, no_more}
use Rattle.cidr.proofs.Step.{by-room}
use Rattle.cidr.proofs.Theorem.{at-most_254}
use Rattle.prefix_bytes.specs.Fitting.{EntryFits}
use Rattle.prefix_walk.specs.Entries.{fallen, Falling}
use Rattle.prefix_bytes.proofs.Widths.{at-most-sixteen}
use Rattle.prefix_walk.proofs.Writing.{entry-fits}

-- by powers
less : (i j : ℕ) → 2 ^ i < 2 ^ j → i < j
less i j h = go (dec_lt i j)
  where
    go : Dec (i < j) → i < j
    go (yes l) = l
    go (no l) = absurd (omega (arith, pow_mono {i = j} {j = i} (omega arith)))

pub doubled : {n : ℕ} (k : ℕ) → n < 2 * 2 ^ k → n < 2 ^ suc k
doubled k h = omega (arith, pow-suc 2 k)

at-most_128 : {width : ℕ} → Wide width → 2 ^ (8 * width) ≤ 2 ^ 128
at-most_128 {width} w = pow_mono {i = 8 * width} {j = 128} (omega (arith, at-most-sixteen w))

under : (w : ℕ) {n m : ℕ} → n ≤ m → m ≤ 2 ^ w → n ≤ 2 ^ w
under w h l = omega arith

-- at every width w
module _ (w s c j k : ℕ) (positive : 0 < s) (below : s + c ≤ 2 ^ w) (zeros : s % 2 ^ j ≡ 0) (few : c < 2 ^ j) (top : Top c k) where
  some : 1 ≤ c
  some = omega (arith, pow_pos k, top.from)

  ends-below : s + c - 1 < 2 ^ w
  ends-below = omega (arith, some)

  largest-at : Largest (from-to s (s + c - 1)) k
  largest-at =
      let e : suc (c - 1) ≡ c = omega (arith, some) in
      let capped : Capped (from-to s (s + c - 1)) = record { bits = j; zeros = zeros; ends = omega (arith, some) } in
      by-room {d = c - 1} capped (omega (arith, some)) (rw e top)

  shorter : k < j
  shorter = less k j (omega (arith, top.from))

  not-last-at : s + 2 ^ k < 2 ^ w
  not-last-at =
      let i : k < w = less k w (omega (arith, top.from)) in
      let m : Multiple (2 ^ suc k) s = finer (suc k) j shorter (of_remainder s j zeros) in
      let n : s + 2 ^ suc k ≤ 2 ^ w = near (2 ^ suc k) (sum m (itself (2 ^ suc k))) (finer (suc k) w i (itself (2 ^ w))) (omega (arith, some)) in
      omega (arith, pow_pos k)

  aligned : Multiple (2 ^ k) s
  aligned = finer k j (omega (arith, shorter)) (of_remainder s j zeros)

  one-more-at : (n c' : ℕ) → n ≡ s + 2 ^ k → c ≡ 2 ^ k + c' → prefixes_of w (from-to s (s + c - 1)) ≡ prefix s k ∷ prefixes_of w (from-to n (n + c' - 1))
  one-more-at n c' after split =
      let e : n + c' - 1 ≡ s + c - 1 = omega arith in
      first-prefix w (from-to s (s + c - 1)) k ends-below largest-at ∙ rw (e, after)

-- none is left
pub none-fallen : {width : ℕ} (first number : ℕ) → Falling width first number → number ≡ 0 → fallen first number ≡ []
none-fallen first number f e = no_more 128 first (first + number - 1) (omega (arith, f.positive, e))

module _ {width : ℕ} {first number : ℕ} (f : Falling width first number) {free : ℕ} (top : Top number free) where
  below : first + number ≤ 2 ^ 128
  below = under 128 f.below (at-most_128 f.wide)

  pub last-below : first + number - 1 < 2 ^ 128
  last-below = ends-below 128 _ _ f.bits free f.positive below f.zeros f.few top

  pub largest : Largest (from-to first (first + number - 1)) free
  largest = largest-at 128 _ _ f.bits free f.positive below f.zeros f.few top

  pub not_last : first + 2 ^ free < 2 ^ 128
  not_last = not-last-at 128 _ _ f.bits free f.positive below f.zeros f.few top

  pub fits : EntryFits width first free
  fits =
      let one = some 128 _ _ f.bits free f.positive below f.zeros f.few top in
      entry-fits width f.wide (omega (arith, one)) (omega (arith, one, f.below)) largest

  -- the others
  module _ (start rest : ℕ) (after : start ≡ first + 2 ^ free) (split : number ≡ 2 ^ free + rest) where
    pub one_more : fallen first number ≡ prefix first free ∷ fallen start rest
    one_more = one-more-at 128 _ _ f.bits free f.positive below f.zeros f.few top start rest after split

    pub still : Falling width start rest
    still = record {
      wide = f.wide;
      positive = omega (arith, f.positive, after);
      below = omega (arith, f.below, after, split);
      bits = free;
      zeros = rw after (to_remainder free (sum (aligned 128 _ _ f.bits free f.positive below f.zeros f.few top) (itself (2 ^ free))));
      few = omega (arith, top.to, split, pow-suc 2 free);
    }

-- there are at most 254, also where there is none
pub few : {width : ℕ} {first number : ℕ} → Falling width first number → length (fallen first number) ≤ 254
few f = at-most_254 _ (omega (arith, f.positive, under 128 f.below (at-most_128 f.wide)))

-- What a prefix at s leaves of a range up to e: r is its last address, n the one after it, c how many follow it
pub same-last : (m r n c e : ℕ) → suc r ≡ m → n ≡ m → r + c ≡ e → n + c - 1 ≡ e
same-last m r n c e a b h = omega arith

pub positive-after : (m r n : ℕ) → suc r ≡ m → n ≡ m → 0 < n
positive-after m r n a b = omega arith

pub below-after : (m r n c e : ℕ) {k : ℕ} → suc r ≡ m → n ≡ m → r + c ≡ e → e < k → n + c ≤ k
below-after m r n c e a b h l = omega arith

pub few-after : (s r c e d k : ℕ) → suc r ≡ s + 2 ^ k → r + c ≡ e → s + d ≡ e → suc d < 2 ^ suc k → c < 2 ^ k
few-after s r c e d k a b h l = omega arith
