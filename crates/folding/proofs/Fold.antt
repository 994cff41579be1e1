-- One final dot, folding byte by byte, and folding a byte as std does.
use mathlib.Core.Path.{◌≡◌, refl, sym, ◌∙◌}
use mathlib.Core.Bool.{Bool, true, false}
use Prim.Native.Char.{code}
use denote.Bor.{Bor}
use lib.Dec.{eqb}
use lib.Pointwise.{pointwise}
use Rattle.std.specs.Prelude.{Option, MatchOption}
use mathlib.Core.Bool.{and-true}
use mathlib.Core.List.{List, [], ◌∷◌, ◌++◌, append_assoc, append-nil, map}
use Prim.Native.Nat.{ℕ, suc, ◌+◌, ◌-◌, ◌≤◌, ◌<◌}
use native.Mathlib.Omega.{arith}
use native.Mathlib.Numerals.{add-one}
use lib.ListN.{length, get_or, take, drop, set, drop_of_length-le}
use lib.Seq.{take-suc-set, drop-set-lt, drop-cons, take_all}
use Rattle.std.specs.Char.{to_ascii_lowercase}
use Rattle.std.proofs.lemmas.Bool.Decides.{nat_tests}
use Rattle.texts.specs.Host.{fold, without_final_dot}

-- what std's `strip_suffix` answers where it looks for one dot
abbrev pub Stripped : List ℕ → Option (Bor (List ℕ)) → Type 0
Stripped s o =
    let test : Bool = pointwise eqb (drop (length s - 1) s) (code "." ∷ []) in
    MatchOption o (test ≡ false) (λ x. (test ≡ true) × (x.now ≡ take (length s - 1) s) × (length x.now + 1 ≡ length s))

-- it looks at the last byte
last-dot : (s : List ℕ) → pointwise eqb (drop (length s - 1) s) (code "." ∷ []) ≡ eqb (get_or s (length s - 1) 0) (code ".")
last-dot [] = refl
last-dot (c ∷ t) =
    let s : List ℕ = c ∷ t in
    let h : length s - 1 < length s = omega arith in
    let k : length s ≤ suc (length s - 1) = omega arith in
    rw (drop-cons s (length s - 1) 0 h, drop_of_length-le s k) (and-true (eqb (get_or s (length s - 1) 0) (code ".")))

pub stripped-dot : (s : List ℕ) → pointwise eqb (drop (length s - 1) s) (code "." ∷ []) ≡ true → take (length s - 1) s ≡ without_final_dot s
unfolding without_final_dot
stripped-dot s e = rw (sym (last-dot s) ∙ e)

pub stripped-none : (s : List ℕ) → pointwise eqb (drop (length s - 1) s) (code "." ∷ []) ≡ false → s ≡ without_final_dot s
unfolding without_final_dot
stripped-none s e = rw (sym (last-dot s) ∙ e)

-- an empty text has no final dot
pub no_final_dot : (s : List ℕ) → length s ≡ 0 → without_final_dot s ≡ s
unfolding without_final_dot
no_final_dot [] e = refl
no_final_dot (c ∷ s) e = let z : ⊥ = omega arith in absurd z

-- one byte folded: what is folded, with the rest folded, is the same text
module _ (s : List ℕ) (i : ℕ) where
  pub fold_step : (v : ℕ) → i < length s → v ≡ fold (get_or s i 0)
      → take (i + 1) (set s i v) ++ map fold (drop (i + 1) (set s i v)) ≡ take i s ++ map fold (drop i s)
  fold_step v h e =
      let l : i < suc i = omega arith in
      rw (add-one, take-suc-set s i v h, drop-set-lt (suc i) s i v l, drop-cons s i 0 h, append_assoc, e)

  pub fold_end : length s ≤ i → take i s ++ map fold (drop i s) ≡ s
  fold_end h = rw (drop_of_length-le s h, take_all i s h, append-nil)

-- std's small letter of a capital
pub lowercase-is : (c : ℕ) → to_ascii_lowercase c ≡ fold c
unfolding fold
lowercase-is c = grind (arith, nat_tests)
