-- Laws of a buffer that is filled from the front: its first n bytes are what was written, the rest is as before.
use Prim.Native.Nat.{ℕ, ◌+◌, ◌<◌}
use mathlib.Core.Path.{◌≡◌, sym, ap, ◌∙◌}
use mathlib.Core.List.{List, ◌∷◌, ◌++◌, append_assoc}
use native.Mathlib.Omega.{arith}
use native.Mathlib.Numerals.{add-one}
use lib.ListN.{length, take, drop, set}
use lib.Seq.{take-suc-set, drop-set-lt, drop-drop}

module _ (b n : ℕ) (out : List ℕ) (room : n < length out) where
  -- b pushed to the n bytes at the front of out
  pub pushed : (rest whole : List ℕ) → take n out ++ (b ∷ rest) ≡ whole → take (n + 1) (set out n b) ++ rest ≡ whole
  pushed rest whole e = rw (add-one, take-suc-set out n b room, append_assoc) e

  pub push_rest : (out₀ : List ℕ) → drop n out ≡ drop n out₀ → drop (n + 1) (set out n b) ≡ drop (n + 1) out₀
  push_rest out₀ e =
      let h : n < n + 1 = omega arith in
      drop-set-lt (n + 1) out n b h ∙ sym (drop-drop 1 n out) ∙ ap (drop 1) e ∙ drop-drop 1 n out₀
