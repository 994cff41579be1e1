-- The groups of an IPv6 address, and the runs of zeros among them (S2.9).
use Rattle.std.specs.Prelude.{ℕ, suc, ◌+◌, ◌*◌, max, List, [], ◌∷◌, cond, eqb, leb}

-- the groups of an IPv6 address: two bytes each, high byte first
unfoldable pub groups_of : List ℕ → List ℕ
groups_of [] = []
groups_of (h ∷ []) = []
groups_of (h ∷ l ∷ s) = (h * 256 + l) ∷ groups_of s

-- how many zeros stand first
unfoldable pub zeros_first : List ℕ → ℕ
zeros_first [] = 0
zeros_first (g ∷ gs) = let more : ℕ = suc (zeros_first gs) in cond (eqb g 0) more 0

-- the length of the longest run of zeros
unfoldable pub longest_run : List ℕ → ℕ
longest_run [] = 0
longest_run (g ∷ gs) = max (zeros_first (g ∷ gs)) (longest_run gs)

-- where the first n zeros in a row stand
unfoldable pub run_at : ℕ → List ℕ → ℕ
run_at n [] = 0
run_at n (g ∷ gs) = let later : ℕ = suc (run_at n gs) in cond (leb n (zeros_first (g ∷ gs))) 0 later
