-- The halving as a relation: what the tests show at each block. Laws on it are recursions over its cases.
use Prim.Native.Nat.{ℕ, zero, suc, ◌+◌, ◌^◌, ◌≤◌, ◌<◌}
use mathlib.Core.Bool.{Bool, true, false, cond}
use mathlib.Core.Logic.{◌⊎◌, inl, inr}
use mathlib.Core.Path.{◌≡◌, refl}
use mathlib.Core.List.{List, [], ◌∷◌, ◌++◌}
use native.Mathlib.Omega.{arith}
use native.Mathlib.Decide.{dec_le, dec_lt}
use lib.Dec.{T}
use lib.Pow.{pow_pos}
use Rattle.address.specs.Ranges.{Range, covers, overlaps}
use Rattle.address.proofs.Geometry.{covers-iff, overlaps-iff}
use Rattle.cidr.specs.Prefixes.{Prefix, prefix, addresses, halved}

-- what the tests of a block of 2 ^ k addresses at f tell
module _ (r : Range) (k f : ℕ) where
  abbrev block : Range
  block = addresses (prefix f k)

  covered : covers r block ≡ true → (r.first ≤ f) × (f + 2 ^ k ≤ suc r.last)
  unfolding addresses
  covered e =
      let t : T (covers r block) = rw e tt in
      let h = (covers-iff r block).0 t in
      (h.0, omega (arith, h.1, pow_pos k))

  uncovered : covers r block ≡ false → r.first ≤ f → suc r.last < f + 2 ^ k
  unfolding addresses
  uncovered e h = go (dec_lt (suc r.last) (f + 2 ^ k))
    where
      go : Dec (suc r.last < f + 2 ^ k) → suc r.last < f + 2 ^ k
      go (yes l) = l
      go (no l) = absurd (rw e at ((covers-iff r block).1 (h, omega arith)))

  apart : overlaps r block ≡ false → (r.last < f) ⊎ (f + 2 ^ k ≤ r.first)
  unfolding addresses
  apart e = go (dec_lt r.last f) (dec_le (f + 2 ^ k) r.first)
    where
      go : Dec (r.last < f) → Dec (f + 2 ^ k ≤ r.first) → (r.last < f) ⊎ (f + 2 ^ k ≤ r.first)
      go (yes l) h = inl l
      go (no l) (yes h) = inr h
      go (no l) (no h) = absurd (rw e at ((overlaps-iff r block).1 (omega (arith, pow_pos k), omega arith)))

pub data Halved (r : Range) : ℕ → ℕ → List Prefix → Type 0 where
  whole : {k f : ℕ} → r.first ≤ f → f + 2 ^ k ≤ suc r.last → Halved r k f (prefix f k ∷ [])
  below : {k f : ℕ} → r.last < f → Halved r k f []
  above : {k f : ℕ} → f + 2 ^ k ≤ r.first → Halved r k f []
  cut : {k f : ℕ} {l m : List Prefix} → (r.first ≤ f → suc r.last < f + 2 ^ suc k)
      → Halved r k f l → Halved r k (f + 2 ^ k) m → Halved r (suc k) f (l ++ m)

-- a block that shares no address with the range
outside : (r : Range) (k f : ℕ) → (r.last < f) ⊎ (f + 2 ^ k ≤ r.first) → Halved r k f []
outside r k f (inl h) = below h
outside r k f (inr h) = above h

pub halves : (r : Range) (k f : ℕ) → Halved r k f (halved r k f)
unfolding halved
halves r zero f = go (covers r (block r zero f)) refl (dec_le r.first f)
  where
    go : (v : Bool) → covers r (block r zero f) ≡ v → Dec (r.first ≤ f) → Halved r zero f (cond v (prefix f 0 ∷ []) [])
    go true e d = let h = covered r zero f e in whole h.0 h.1
    go false e (yes h) = below {k = zero} {f = f} (omega (arith, uncovered r zero f e h))
    go false e (no h) = above {k = zero} {f = f} (omega arith)
halves r (suc k) f = go (covers r (block r (suc k) f)) (overlaps r (block r (suc k) f)) refl refl (halves r k f) (halves r k (f + 2 ^ k))
  where
    go : (u v : Bool) → covers r (block r (suc k) f) ≡ u → overlaps r (block r (suc k) f) ≡ v
        → {l m : List Prefix} → Halved r k f l → Halved r k (f + 2 ^ k) m
        → Halved r (suc k) f (cond u (prefix f (suc k) ∷ []) (cond v (l ++ m) []))
    go true v d e x y = let h = covered r (suc k) f d in whole h.0 h.1
    go false true d e x y = cut (uncovered r (suc k) f d) x y
    go false false d e x y = outside r (suc k) f (apart r (suc k) f e)

module _ {r : Range} where
  -- no prefix where the block shares no address with the range
  pub none_below : {k f : ℕ} {l : List Prefix} → Halved r k f l → r.last < f → l ≡ []
  none_below (whole {k = k} a b) h = absurd (omega (arith, pow_pos k))
  none_below (below a) h = refl
  none_below (above a) h = refl
  none_below (cut n x y) h = rw (none_below x h, none_below y (omega arith))

  pub none_above : {k f : ℕ} {l : List Prefix} → Halved r k f l → f + 2 ^ k ≤ r.first → l ≡ []
  none_above (whole {k = k} a b) h = absurd (omega (arith, pow_pos k))
  none_above (below a) h = refl
  none_above (above a) h = refl
  none_above (cut {k = k} n x y) h = rw (none_above x (omega arith), none_above y (omega arith))

  -- the block itself where it lies inside
  pub one : {k f : ℕ} {l : List Prefix} → Halved r k f l → r.first ≤ f → f + 2 ^ k ≤ suc r.last → l ≡ prefix f k ∷ []
  one (whole a b) h g = refl
  one (below {k = k} a) h g = absurd (omega (arith, pow_pos k))
  one (above {k = k} a) h g = absurd (omega (arith, pow_pos k))
  one (cut n x y) h g = absurd (omega (arith, n h))

  pub empty : {k f : ℕ} {l : List Prefix} → Halved r k f l → r.last < r.first → l ≡ []
  empty (whole {k = k} a b) h = absurd (omega (arith, pow_pos k))
  empty (below a) h = refl
  empty (above a) h = refl
  empty (cut n x y) h = rw (empty x h, empty y h)

-- a block that is not inside the range: the lists of its halves, joined
pub split : (r : Range) (k f : ℕ) → (r.first ≤ f → suc r.last < f + 2 ^ suc k) → halved r (suc k) f ≡ halved r k f ++ halved r k (f + 2 ^ k)
unfolding halved
split r k f n = go (covers r (block r (suc k) f)) (overlaps r (block r (suc k) f)) refl refl
  where
    none : (r.last < f) ⊎ (f + 2 ^ suc k ≤ r.first) → [] ≡ halved r k f ++ halved r k (f + 2 ^ k)
    none (inl h) = rw (none_below (halves r k f) h, none_below (halves r k (f + 2 ^ k)) (omega arith))
    none (inr h) = rw (none_above (halves r k f) (omega arith), none_above (halves r k (f + 2 ^ k)) (omega arith))

    go : (u v : Bool) → covers r (block r (suc k) f) ≡ u → overlaps r (block r (suc k) f) ≡ v
        → cond u (prefix f (suc k) ∷ []) (cond v (halved r k f ++ halved r k (f + 2 ^ k)) []) ≡ halved r k f ++ halved r k (f + 2 ^ k)
    go true v d e = let h = covered r (suc k) f d in absurd (omega (arith, n h.0, h.1))
    go false true d e = refl
    go false false d e = none (apart r (suc k) f e)
