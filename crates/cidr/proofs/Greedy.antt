-- The halving takes the largest prefix at the start of the range first; the rest are the prefixes of the rest of the range.
use Prim.Native.Nat.{ℕ, zero, suc, ◌+◌, ◌-◌, ◌^◌, ◌≤◌, ◌<◌}
use mathlib.Core.Path.{◌≡◌, sym, ap, ◌∙◌}
use mathlib.Core.List.{List, [], ◌∷◌, ◌++◌, append-nil}
use native.Mathlib.Omega.{arith}
use native.Mathlib.Decide.{dec_le, dec_lt}
use borrow.Author.Tests.{le-leb}
use lib.Pow.{pow_pos, pow_mono}
use Rattle.address.specs.Ranges.{Range, covers, overlaps}
use Rattle.cidr.specs.Prefixes.{Prefix, prefix, from-to, addresses, halved, prefixes_of}
use Rattle.cidr.specs.First.{Largest}
use Rattle.cidr.proofs.Multiples.{Multiple, sum, itself, finer, half, other_half, near, of_remainder, to_remainder}
use Rattle.cidr.proofs.Halving.{halves, none_below, none_above, one, empty, split}

-- where both ranges start at the block or before it, only their end matters
same_end : (s t e k f : ℕ) → s ≤ f → t ≤ f → halved (from-to s e) k f ≡ halved (from-to t e) k f
unfolding halved covers overlaps addresses
same_end s t e zero f h g = rw (le-leb s f h, le-leb t f g)
same_end s t e (suc k) f h g =
    rw (
      le-leb s f h,
      le-leb t f g,
      le-leb s (f + 2 ^ suc k - 1) (omega (arith, pow_pos (suc k))),
      le-leb t (f + 2 ^ suc k - 1) (omega (arith, pow_pos (suc k))),
      same_end s t e k f h g,
      same_end s t e k (f + 2 ^ k) (omega arith) (omega arith),
    )

-- inside a block, the prefix at s with t free bits comes first, and then those of the rest of the range
abbrev Peeled : (s e t k f : ℕ) → Type 0
Peeled s e t k f = halved (from-to s e) k f ≡ prefix s t ∷ halved (from-to (s + 2 ^ t) e) k f

module _ (s e t : ℕ) (zeros : Multiple (2 ^ t) s) (inside : s + 2 ^ t ≤ suc e) (largest : Multiple (2 ^ suc t) s → s + 2 ^ suc t ≤ suc e → ⊥) where
  -- the block lies inside the range: it is the first prefix, and nothing is left
  at_once : (k f : ℕ) → Multiple (2 ^ k) f → t ≤ k → s ≡ f → f + 2 ^ k ≤ suc e → Peeled s e t k f
  at_once k f m h p g =
      let d : t ≡ k = same (dec_le k t) in
      let a = one (halves (from-to s e) k f) (omega arith) g in
      let b = none_above (halves (from-to (s + 2 ^ t) e) k f) (rw (d, p) (omega arith)) in
      rw (a, b) (rw (d, p))
    where
      same : Dec (k ≤ t) → t ≡ k
      same (yes l) = omega arith
      same (no l) =
          let i : suc t ≤ k = omega arith in
          absurd (largest (finer (suc t) k i (rw p m)) (omega (arith, pow_mono i)))

  greedy : (k f : ℕ) → Multiple (2 ^ k) f → f ≤ s → s < f + 2 ^ k → t ≤ k → Peeled s e t k f
  greedy zero f m h l i = at_once zero f m i (omega arith) (omega (arith, pow_pos t))
  greedy (suc k) f m h l i = go (dec_le s f) (dec_le (f + 2 ^ suc k) (suc e)) (λ d. greedy k f (half k m) h d) (λ d. greedy k (f + 2 ^ k) (other_half k m) d (omega arith))
    where
      shorter : (s ≤ f → suc e < f + 2 ^ suc k) → Dec (t ≤ k) → t ≤ k
      shorter n (yes d) = d
      shorter n (no d) =
          let q : t ≡ suc k = omega arith in
          let z : Multiple (2 ^ suc k) s = rw (← q) zeros in
          let p : s ≤ f = near (2 ^ suc k) z m l in
          absurd (omega (arith, n p, rw q at inside))

      part : (s ≤ f → suc e < f + 2 ^ suc k) → t ≤ k → Dec (s < f + 2 ^ k)
          → (s < f + 2 ^ k → t ≤ k → Peeled s e t k f)
          → (f + 2 ^ k ≤ s → t ≤ k → Peeled s e t k (f + 2 ^ k))
          → halved (from-to s e) k f ++ halved (from-to s e) k (f + 2 ^ k) ≡ prefix s t ∷ (halved (from-to (s + 2 ^ t) e) k f ++ halved (from-to (s + 2 ^ t) e) k (f + 2 ^ k))
      part n j (yes d) u v =
          let p : s + 2 ^ t ≤ f + 2 ^ k = near (2 ^ t) (sum zeros (itself (2 ^ t))) (finer t k j (other_half k m)) (omega arith) in
          rw (u d j, same_end s (s + 2 ^ t) e k (f + 2 ^ k) (omega arith) p)
      part n j (no d) u v =
          rw (
            none_above (halves (from-to s e) k f) (omega arith),
            none_above (halves (from-to (s + 2 ^ t) e) k f) (omega arith),
            v (omega arith) j,
          )

      cut : (s ≤ f → suc e < f + 2 ^ suc k)
          → (s < f + 2 ^ k → t ≤ k → Peeled s e t k f)
          → (f + 2 ^ k ≤ s → t ≤ k → Peeled s e t k (f + 2 ^ k))
          → Peeled s e t (suc k) f
      cut n u v =
          split (from-to s e) k f n
          ∙ part n (shorter n (dec_le t k)) (dec_lt s (f + 2 ^ k)) u v
          ∙ ap (λ (l : List Prefix). prefix s t ∷ l) (sym (split (from-to (s + 2 ^ t) e) k f (λ q. absurd (omega (arith, q, pow_pos t)))))

      go : Dec (s ≤ f) → Dec (f + 2 ^ suc k ≤ suc e)
          → (s < f + 2 ^ k → t ≤ k → Peeled s e t k f)
          → (f + 2 ^ k ≤ s → t ≤ k → Peeled s e t k (f + 2 ^ k))
          → Peeled s e t (suc k) f
      go (yes a) (yes b) u v = at_once (suc k) f m i (omega arith) b
      go (yes a) (no b) u v = cut (λ q. omega arith) u v
      go (no a) b u v = cut (λ q. absurd (omega (arith, q))) u v

-- the largest prefix first, then those of the rest of the range
pub first-prefix : (w : ℕ) (r : Range) (t : ℕ) → r.last < 2 ^ w → Largest r t
    → prefixes_of w r ≡ prefix r.first t ∷ prefixes_of w (from-to (r.first + 2 ^ t) r.last)
unfolding prefixes_of
first-prefix w r t h g =
    greedy r.first r.last t (of_remainder r.first t g.zeros) g.inside
    (λ m l. g.next (to_remainder (suc t) m) l)
    w 0 (record { times = 0; equal = omega arith }) (omega arith) (omega (arith, g.inside, pow_pos t)) (short (dec_le t w))
  where
    short : Dec (t ≤ w) → t ≤ w
    short (yes d) = d
    short (no d) =
        let i : suc w ≤ t = omega arith in
        absurd (omega (arith, g.inside, pow_mono i, pow_pos w))

-- nothing is left where the range is empty
pub no_more : (w : ℕ) (s e : ℕ) → e < s → prefixes_of w (from-to s e) ≡ []
unfolding prefixes_of
no_more w s e h = empty (halves (from-to s e) w 0) h

-- more bits change nothing
pub wider : (r : Range) (w k : ℕ) → r.last < 2 ^ w → prefixes_of (k + w) r ≡ prefixes_of w r
unfolding prefixes_of
wider r w zero h = let e : 0 + w ≡ w = omega arith in rw e
wider r w (suc k) h =
    let e : suc k + w ≡ suc (k + w) = omega arith in
    let p : 2 ^ w ≤ 2 ^ (k + w) = pow_mono (omega arith) in
    rw e
    (split r (k + w) 0 (λ g. omega (arith, pow_pos w))
    ∙ ap (λ (l : List Prefix). halved r (k + w) 0 ++ l) (none_below (halves r (k + w) (0 + 2 ^ (k + w))) (omega arith))
    ∙ append-nil (halved r (k + w) 0)
    ∙ wider r w k h)
