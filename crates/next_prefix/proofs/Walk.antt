-- A walk over the prefixes of a range, from its start: the last step, and one more.
use Prim.Native.Nat.{ℕ, suc, ◌+◌, ◌-◌, ◌^◌, ◌≤◌, ◌<◌}
use mathlib.Core.Path.{◌≡◌, ap, ◌∙◌}
use mathlib.Core.List.{List, [], ◌∷◌}
use native.Mathlib.Omega.{arith}
use native.Mathlib.Decide.{dec_lt}
use lib.Pow.{pow_mono, pow_pos}
use Rattle.cidr.specs.Prefixes.{Prefix, prefix, from-to, prefixes_of}
use Rattle.cidr.specs.First.{Largest}
use Rattle.cidr.proofs.Greedy.{first-prefix, no_more}

-- an end inside a range, and one after it
pub ends_by : {r e n : ℕ} → suc r ≡ n → r ≤ e → n ≤ suc e
ends_by h l = omega arith

pub ends-after : {r e n : ℕ} → suc r ≡ n → e ≤ r → suc e ≤ n
ends-after h l = omega arith

pub shorter : (w s : ℕ) {t : ℕ} → s + 2 ^ t < 2 ^ w → t < w
shorter w s {t} p = go (dec_lt t w)
  where
    go : Dec (t < w) → t < w
    go (yes h) = h
    go (no h) = absurd (omega (arith, pow_mono {i = w} {j = t} (omega arith)))

pub ends-inside : (w : ℕ) {s e t : ℕ} → e < 2 ^ w → Largest (from-to s e) t → s + 2 ^ t ≤ 2 ^ w
ends-inside w below largest = omega (arith, largest.inside)

-- the prefix at s has t free bits, and n is the address after it
module _ (w : ℕ) {s e t n : ℕ} (below : e < 2 ^ w) (largest : Largest (from-to s e) t) (after : n ≡ s + 2 ^ t) where
  pub one_more : prefixes_of w (from-to s e) ≡ prefix s t ∷ prefixes_of w (from-to n e)
  one_more = first-prefix w (from-to s e) t below largest ∙ rw after

  pub falls : n ≤ e → e - n < e - s
  falls h = omega (arith, pow_pos t)

-- it ends with r
module _ (w : ℕ) {s e t r : ℕ} (below : e < 2 ^ w) (largest : Largest (from-to s e) t) (end : suc r ≡ s + 2 ^ t) where
  pub last_one : e ≤ r → prefixes_of w (from-to s e) ≡ prefix s t ∷ []
  last_one h = one_more w below largest end ∙ ap (λ (l : List Prefix). prefix s t ∷ l) (no_more w (suc r) e (omega arith))

  -- before the range does
  module _ (h : r < e) where
    pub not-all : s + 2 ^ t < 2 ^ w
    not-all = omega arith

    pub inside : {n : ℕ} → n ≡ s + 2 ^ t → n ≤ e
    inside after = omega arith
