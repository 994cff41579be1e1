-- How many prefixes a range has at most.
use Prim.Native.Nat.{ℕ, zero, suc, ◌+◌, ◌-◌, ◌*◌, ◌^◌, ◌≤◌, ◌<◌, max, zero-le}
use mathlib.Core.List.{List, ◌++◌}
use native.Mathlib.Omega.{arith}
use native.Mathlib.Decide.{dec_le, dec_lt}
use lib.ListN.{length, length-append}
use lib.Pow.{pow_pos}
use Rattle.address.specs.Ranges.{Range}
use Rattle.cidr.specs.Prefixes.{Prefix}
use Rattle.cidr.proofs.Halving.{Halved, whole, below, above, cut, none_below, none_above, one}

positive : (k : ℕ) → 1 < 2 ^ k → 1 ≤ k
positive zero h = absurd (omega (arith, h))
positive (suc k) h = omega arith

module _ {r : Range} where
  -- a range that holds the block's first address, or starts before it
  from-left : {k f : ℕ} {l : List Prefix} → Halved r k f l → r.first ≤ f → length l ≤ max 1 k
  from-left (whole a b) h = omega arith
  from-left (below a) h = zero-le
  from-left (above a) h = zero-le
  from-left (cut {k = k} {f = f} {l = l} {m = u} n x y) h =
      go (dec_lt r.last (f + 2 ^ k)) (from-left x h) (from-left y (omega arith))
    where
      go : Dec (r.last < f + 2 ^ k) → length l ≤ max 1 k → length u ≤ max 1 k → length (l ++ u) ≤ max 1 (suc k)
      go (yes d) s t = rw (none_below y d, length-append) (omega arith)
      go (no d) s t =
          let p : 1 ≤ k = positive k (omega (arith, n h)) in
          rw (one x h (omega arith), length-append) (omega arith)

  -- a range that holds the block's last address, or ends after it
  from-right : {k f : ℕ} {l : List Prefix} → Halved r k f l → f + 2 ^ k ≤ suc r.last → length l ≤ max 1 k
  from-right (whole a b) h = omega arith
  from-right (below a) h = zero-le
  from-right (above a) h = zero-le
  from-right (cut {k = k} {f = f} {l = l} {m = u} n x y) h =
      go (dec_le (f + 2 ^ k) r.first) (dec_le r.first f) (from-right x (omega arith)) (from-right y (omega arith))
    where
      go : Dec (f + 2 ^ k ≤ r.first) → Dec (r.first ≤ f) → length l ≤ max 1 k → length u ≤ max 1 k → length (l ++ u) ≤ max 1 (suc k)
      go (yes d) e s t = rw (none_above x d, length-append) (omega arith)
      go (no d) (yes e) s t = absurd (omega (arith, n e))
      go (no d) (no e) s t =
          let p : 1 ≤ k = positive k (omega arith) in
          rw (one y (omega arith) (omega arith), length-append) (omega arith)

  pub few : {k f : ℕ} {l : List Prefix} → Halved r k f l → length l ≤ max 1 (2 * k - 2)
  few (whole a b) = omega arith
  few (below a) = zero-le
  few (above a) = zero-le
  few (cut {k = k} {f = f} {l = l} {m = u} n x y) =
      go (dec_lt r.last (f + 2 ^ k)) (dec_le (f + 2 ^ k) r.first) (few x) (few y)
    where
      more : r.first < f + 2 ^ k → f + 2 ^ k ≤ r.last → Dec (1 < 2 ^ k) → 1 ≤ k
      more s t (yes e) = positive k e
      more s t (no e) = absurd (omega (arith, n (omega arith), pow_pos k))

      go : Dec (r.last < f + 2 ^ k) → Dec (f + 2 ^ k ≤ r.first) → length l ≤ max 1 (2 * k - 2) → length u ≤ max 1 (2 * k - 2)
          → length (l ++ u) ≤ max 1 (2 * suc k - 2)
      go (yes d) e s t = rw (none_below y d, length-append) (omega arith)
      go (no d) (yes e) s t = rw (none_above x e, length-append) (omega arith)
      go (no d) (no e) s t =
          let p : 1 ≤ k = more (omega arith) (omega arith) (dec_lt 1 (2 ^ k)) in
          let a = from-right x (omega arith) in
          let b = from-left y (omega arith) in
          rw length-append (omega arith)
