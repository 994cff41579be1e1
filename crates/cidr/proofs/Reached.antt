-- The bound is reached at every width: all addresses but the first and the last have 2 w - 2 prefixes.
use Prim.Native.Nat.{ℕ, zero, suc, ◌+◌, ◌-◌, ◌*◌, ◌^◌, ◌≤◌}
use mathlib.Core.Path.{◌≡◌, ap, ◌∙◌}
use native.Mathlib.Omega.{arith}
use lib.ListN.{length, length-append}
use lib.Pow.{pow_pos}
use Rattle.cidr.specs.Prefixes.{from-to, halved, prefixes_of}
use Rattle.cidr.specs.Shortest.{BoundReached}
use Rattle.cidr.proofs.Halving.{halves, none_below, none_above, one, split}

-- of a block without its last address
ends_early : (s e k f : ℕ) → s ≤ f → suc (suc e) ≡ f + 2 ^ k → length (halved (from-to s e) k f) ≡ k
ends_early s e zero f h g = ap length (none_below (halves (from-to s e) zero f) (omega arith))
ends_early s e (suc k) f h g =
    rw (split (from-to s e) k f (λ i. omega arith), one (halves (from-to s e) k f) h (omega (arith, pow_pos k)), length-append)
    (omega (arith, ends_early s e k (f + 2 ^ k) (omega arith) (omega arith)))

-- of a block without its first address
starts_late : (s e k f : ℕ) → s ≡ suc f → f + 2 ^ k ≤ suc e → length (halved (from-to s e) k f) ≡ k
starts_late s e zero f h g = ap length (none_above (halves (from-to s e) zero f) (omega arith))
starts_late s e (suc k) f h g =
    rw (split (from-to s e) k f (λ i. absurd (omega (arith, i))), one (halves (from-to s e) k (f + 2 ^ k)) (omega (arith, pow_pos k)) (omega arith), length-append)
    (omega (arith, starts_late s e k f h (omega arith)))

pub reached : BoundReached
unfolding prefixes_of
reached zero h = absurd (omega (arith, h))
reached (suc w) h = go (2 ^ suc w - 2) (omega (arith, pow_pos w))
  where
    go : (e : ℕ) → suc (suc e) ≡ 2 ^ suc w → length (halved (from-to 1 e) (suc w) 0) ≡ 2 * suc w - 2
    go e g =
        let a : length (halved (from-to 1 e) w 0) ≡ w = starts_late 1 e w 0 (omega arith) (omega (arith, pow_pos w)) in
        let b : length (halved (from-to 1 e) w (0 + 2 ^ w)) ≡ w = ends_early 1 e w (0 + 2 ^ w) (omega (arith, pow_pos w)) (omega arith) in
        ap length (split (from-to 1 e) w 0 (λ i. absurd (omega (arith, i)))) ∙ length-append (halved (from-to 1 e) w 0) (halved (from-to 1 e) w (0 + 2 ^ w)) ∙ omega arith
