-- Two texts compared, exactly or with ASCII case folded (S8.4, S9.4).
use Rattle.std.specs.Prelude.{ℕ, List, [], ◌∷◌, Bool, true, false, ◌&&◌, eqb}
use Rattle.texts.specs.Host.{fold}

-- the byte itself, or folded
unfoldable pub fold_if : Bool → ℕ → ℕ
fold_if true c = fold c
fold_if false c = c

-- the same bytes, after folding where folded says so
unfoldable pub alike : Bool → List ℕ → List ℕ → Bool
alike folded [] [] = true
alike folded [] (d ∷ t) = false
alike folded (c ∷ s) [] = false
alike folded (c ∷ s) (d ∷ t) = eqb (fold_if folded c) (fold_if folded d) && alike folded s t
