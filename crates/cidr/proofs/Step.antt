-- The step of a walk over the prefixes: the trailing zeros of the start, capped by the highest bit of what remains.
use Prim.Native.Nat.{ℕ, suc, ◌+◌, ◌-◌, ◌*◌, ◌^◌, ◌%◌, ◌≤◌, ◌<◌, min}
use mathlib.Core.Path.{◌≡◌, refl}
use mathlib.Core.List.{◌∷◌}
use native.Mathlib.Omega.{arith}
use native.Mathlib.Decide.{dec_le, dec_lt}
use native.Mathlib.Nat.{mul-le-mul_right}
use lib.Count.{count_trailing_zeros}
use lib.Pow.{pow-add, pow_mono, pow_pos}
use Rattle.address.specs.Ranges.{Range}
use Rattle.cidr.specs.Prefixes.{prefix, from-to, prefixes_of}
use Rattle.cidr.specs.First.{Largest, Capped, Top}
use Rattle.cidr.proofs.Multiples.{Multiple, sum, itself, finer, near, of_remainder, to_remainder}
use Rattle.cidr.proofs.Zeros.{Zeros, zeros}
use Rattle.cidr.proofs.Greedy.{first-prefix}

-- a number of two digits: the place of the highest bit of the high one, if that is not 0
pub top-high : (k : ℕ) {h l t : ℕ} → Top h t → l < 2 ^ k → Top (h * 2 ^ k + l) (k + t)
top-high k {h} {l} {t} p b = record {
  from = rw (pow-add 2 k t) (omega (arith, mul-le-mul_right (2 ^ k) p.from));
  to =
      let e : suc (k + t) ≡ suc t + k = omega arith in
      rw (e, pow-add 2 (suc t) k) (omega (arith, mul-le-mul_right (2 ^ k) p.to));
}

-- trailing zeros of the start, capped by the bits that what remains allows
module _ (w s e z : ℕ) (low : z ≡ count_trailing_zeros w s) (below : e < 2 ^ w) where
  start : Zeros w s z
  start = rw low (zeros w s)

  pub aligned : s % 2 ^ z ≡ 0
  aligned = to_remainder z start.multiple

  pub short : z ≤ w
  short = start.short

  -- the prefix that the zeros allow ends inside the range
  pub by-zeros : s + 2 ^ z ≤ suc e → Largest (from-to s e) z
  by-zeros h = record {
    zeros = aligned;
    inside = h;
    next = λ m g. start.next (more (dec_lt z w) g) (of_remainder s (suc z) m);
  }
    where
      more : Dec (z < w) → s + 2 ^ suc z ≤ suc e → z < w
      more (yes d) g = d
      more (no d) g = absurd (omega (arith, g, pow_mono {i = w} {j = z} (omega arith), pow_pos w))

  -- it ends with the range or after it
  abbrev pub by_end : suc e ≤ s + 2 ^ z → Capped (from-to s e)
  by_end h = record { bits = z; zeros = aligned; ends = h }

  -- it ends at the latest with the last address of all
  pub ends : s ≤ e → s + 2 ^ z ≤ 2 ^ w
  ends h = near (2 ^ z) (sum start.multiple (itself (2 ^ z))) (finer z w start.short (itself (2 ^ w))) (omega arith)

-- what remains decides
module _ {s d e cap : ℕ} (c : Capped (from-to s e)) (sum_is_lem : s + d ≡ e) (room : Top (suc d) cap) where
  within : cap ≤ c.bits
  within = go (dec_le cap c.bits)
    where
      go : Dec (cap ≤ c.bits) → cap ≤ c.bits
      go (yes l) = l
      go (no l) = absurd (omega (arith, room.from, c.ends, pow_mono {i = suc c.bits} {j = cap} (omega arith), pow_pos c.bits))

  multiple : Multiple (2 ^ cap) s
  multiple = finer cap c.bits within (of_remainder s c.bits c.zeros)

  pub by-room : Largest (from-to s e) cap
  by-room = record {
    zeros = to_remainder cap multiple;
    inside = omega (arith, room.from);
    next = λ m g. omega (arith, g, room.to);
  }

-- The first prefix of a range, and the rest: the trailing zeros of its start, capped by the highest bit of how many addresses it has.
pub zeros-capped : (w : ℕ) (r : Range) (cap : ℕ) → r.first ≤ r.last → r.last < 2 ^ w → Top (suc (r.last - r.first)) cap
    → prefixes_of w r ≡ prefix r.first (min (count_trailing_zeros w r.first) cap) ∷ prefixes_of w (from-to (r.first + 2 ^ min (count_trailing_zeros w r.first) cap) r.last)
zeros-capped w r cap h b p = first-prefix w r (min z cap) b (go (dec_le (r.first + 2 ^ z) (suc r.last)) (dec_le z cap))
  where
    z : ℕ
    z = count_trailing_zeros w r.first

    go : Dec (r.first + 2 ^ z ≤ suc r.last) → Dec (z ≤ cap) → Largest r (min z cap)
    go (yes d) (yes l) = let e : min z cap ≡ z = omega arith in rw e (by-zeros w r.first r.last z refl b d)
    go (yes d) (no l) = absurd (omega (arith, p.to, pow_mono {i = suc cap} {j = z} (omega arith)))
    go (no d) l =
        let c = by_end w r.first r.last z refl b (omega arith) in
        let e : min z cap ≡ cap = omega (arith, within c (omega arith) p) in
        rw e (by-room c (omega arith) p)
