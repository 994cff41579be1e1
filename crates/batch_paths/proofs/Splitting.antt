-- The paths of a text as a slice's own `split` gives them, and how many they are.
use Rattle.std.specs.List.{slice_split, count_by}
use Rattle.std.proofs.lemmas.List.Splits.{length-slice_split}
use Prim.Native.Nat.{ℕ, ◌+◌, ◌<◌}
use Prim.Native.Char.{code}
use mathlib.Core.Path.{◌≡◌, refl, ap, ◌∙◌}
use mathlib.Core.Bool.{cond}
use mathlib.Core.List.{List, [], ◌∷◌}
use lib.Dec.{eqb}
use lib.ListN.{length, drop, get_or}
use lib.Seq.{drop-cons}
use native.Mathlib.Numerals.{add-one}
use Rattle.path.proofs.Splitting.{split-std}
use Rattle.batches.specs.Batch.{paths_of}

pub paths_split : (text : List ℕ) → paths_of text ≡ slice_split (λ b. eqb b 10) text
unfolding paths_of
paths_split text = split-std (code "\n") text

pub paths_counted : (text : List ℕ) → count_by (λ b. eqb b 10) text + 1 ≡ length (paths_of text)
paths_counted text = rw (paths_split text, length-slice_split (λ b. eqb b 10) text)

-- the paths that are left at a turn begin with its item
pub left-begins : (paths : List (List ℕ)) (path : List ℕ) (n : ℕ) → (n < length paths) × (path ≡ get_or paths n path) → drop n paths ≡ path ∷ drop (n + 1) paths
left-begins paths path n h = drop-cons paths n path h.0 ∙ rw (← h.1, add-one n) refl
