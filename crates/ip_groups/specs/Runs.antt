-- Serves contracts and proofs. Groups as bytes, and what one pass over the groups finds.
use Rattle.std.specs.Prelude.{ℕ, ◌/◌, ◌%◌, ◌≡◌, List, [], ◌∷◌}
use Rattle.ip_groups.specs.Groups.{zeros_first, longest_run, run_at}

-- the bytes of groups: two each, high byte first
abbrev pub bytes_of : List ℕ → List ℕ
bytes_of [] = []
bytes_of (g ∷ gs) = g / 256 ∷ g % 256 ∷ bytes_of gs

-- the longest run of zeros, and its place
pub record LongestRun (gs : List ℕ) (longest at : ℕ) : Type 0 where
  pub most : longest ≡ longest_run gs
  pub found_at : at ≡ run_at (longest_run gs) gs

-- the zeros that stand first, and that run
pub record RunsOf (gs : List ℕ) (first longest at : ℕ) : Type 0 where
  pub front : first ≡ zeros_first gs
  pub run : LongestRun gs longest at
