-- What the runs say of a text.
use mathlib.Core.Path.{◌≡◌, refl}
use mathlib.Core.Bool.{Bool, true, false, not, ◌&&◌}
use mathlib.Core.List.{List}
use Prim.Native.Nat.{ℕ, ◌+◌, ◌≤◌, ◌<◌}
use Prim.Native.Char.{code}
use borrow.Author.Tests.{le-leb, lt-leb, leb-false}
use native.Mathlib.Omega.{arith}
use lib.Dec.{leb, eqb}
use lib.ListN.{length, get_or, take}
use Rattle.octets.specs.Lists.{within, every}
use Rattle.texts.specs.Texts.{text_byte, good_text}
use Rattle.texts.proofs.Runs.{every-step}

-- a length that is not from 8 to 16, and not less
pub beyond : (n : ℕ) → within 8 16 n ≡ false → 8 ≤ n → 16 < n
beyond n e h = leb-false n 16 (rw (le-leb 8 n h) at e)

-- one byte more, tested by its two bounds and then for an asterisk
pub text-step : (low : ℕ) (s : List ℕ) (i : ℕ) (good : Bool) → i < length s → good ≡ every (text_byte low) (take i s)
    → (good && leb low (get_or s i 0) && leb (get_or s i 0) 0x7E && not (eqb (get_or s i 0) (code "*"))) ≡ every (text_byte low) (take (i + 1) s)
text-step low s i good h e = rw (every-step (text_byte low) s i h, e) (regroup (every (text_byte low) (take i s)) _ _ _)
  where
    regroup : (g a b c : Bool) → (g && a && b && c) ≡ (g && (a && b && c))
    regroup true a b c = refl
    regroup false a b c = refl

module _ (low : ℕ) (s : List ℕ) where
  pub text-empty : length s < 1 → false ≡ good_text low s
  unfolding good_text
  text-empty h = rw (lt-leb 1 (length s) h)

  pub text-long : 64 < length s → false ≡ good_text low s
  unfolding good_text
  text-long k = rw (le-leb 1 (length s) (omega arith), lt-leb (length s) 64 k)

  -- 1 to 64 bytes
  pub text-whole : 1 ≤ length s → length s ≤ 64 → every (text_byte low) s ≡ good_text low s
  unfolding good_text
  text-whole h l = rw (le-leb 1 (length s) h, le-leb (length s) 64 l)
