-- Record numbers collected in an array: the first n are found, L is what is still to be found, L' what is left after a turn.
use Prim.Native.Nat.{ℕ, ◌+◌, ◌<◌}
use mathlib.Core.Path.{◌≡◌, ◌∙◌}
use mathlib.Core.List.{List, ◌∷◌, ◌++◌}
use native.Mathlib.Numerals.{add-one}
use lib.ListN.{length, take, set}
use lib.Seq.{take-suc-set, append_snoc}

pub one_more : (hits : List ℕ) (n i : ℕ) {L L' R : List ℕ} → L ≡ i ∷ L' → n < length hits → take n hits ++ L ≡ R → take (n + 1) (set hits n i) ++ L' ≡ R
one_more hits n i {L' = L'} e h inv =
    rw (add-one n, take-suc-set hits n i h) (append_snoc (take n hits) i L' ∙ rw e at inv)
