-- The name of a filter, byte by byte.
use Prim.Native.Nat.{ℕ, zero, suc, ◌+◌, ◌<◌}
use mathlib.Core.Bool.{cond}
use mathlib.Core.Path.{◌≡◌, refl, ap}
use mathlib.Core.List.{List, [], ◌∷◌}
use native.Mathlib.Omega.{arith}
use native.Mathlib.Numerals.{add-one}
use lib.ListN.{length, take, get_or, set}
use lib.Seq.{take-suc, take-length}
use Rattle.octets.specs.Ascii.{code}
use Rattle.output.specs.Writing.{Written}
use Rattle.output.proofs.Writing.{written_one}
use Rattle.formats.specs.declared.Format.{Format}
use Rattle.formats.specs.Template.{is_allowed, name_from, name_in}

from-length : (f : Format) (i : ℕ) (s : List ℕ) → length (name_from f i s) ≡ length s
unfolding name_from
from-length f i [] = refl
from-length f i (c ∷ s) = ap suc (from-length f (suc i) s)

from_at : (f : Format) (i k : ℕ) (s : List ℕ) → k < length s → get_or (name_from f i s) k 0 ≡ cond (is_allowed f (i + k) (get_or s k 0)) (get_or s k 0) (code "_")
unfolding name_from
from_at f i k [] h = absurd (omega arith)
from_at f i zero (c ∷ s) h = let e : i + 0 ≡ i = omega arith in rw e
from_at f i (suc k) (c ∷ s) h = let e : i + suc k ≡ suc i + k = omega arith in rw e (from_at f (suc i) k s (omega arith))

module _ (f : Format) (s : List ℕ) where
  pub name-length : length (name_in f s) ≡ length s
  unfolding name_in
  name-length = from-length f 0 s

  name-at : (k : ℕ) → k < length s → get_or (name_in f s) k 0 ≡ cond (is_allowed f k (get_or s k 0)) (get_or s k 0) (code "_")
  unfolding name_in
  name-at k h = let e : 0 + k ≡ k = omega arith in rw e at (from_at f 0 k s h)

  -- one byte more
  pub name-next :
      {before after : List ℕ} {i x : ℕ} → i < length s → i < length after → x ≡ cond (is_allowed f i (get_or s i 0)) (get_or s i 0) (code "_")
      → Written (take i (name_in f s)) before after i → Written (take (i + 1) (name_in f s)) before (set after i x) (i + 1)
  name-next {i = i} {x = x} h k e w =
      let inside : i < length (name_in f s) = omega (arith, name-length) in
      rw (add-one i, take-suc (name_in f s) i 0 inside, name-at i h, ← e, ← add-one i) (written_one x k w)

  pub name-written : {before after : List ℕ} {i : ℕ} → i ≡ length s → Written (take i (name_in f s)) before after i → Written (name_in f s) before after (length s)
  name-written e w = rw (← name-length) (rw (e, ← name-length, take-length (name_in f s)) at w)
