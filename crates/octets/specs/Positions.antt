-- Serves contracts and proofs. Numbers by their positions in a list of bytes.
use Rattle.std.specs.Prelude.{◌≡◌, List, ℕ, ◌+◌, ◌≤◌}
use Rattle.std.proofs.Math.Seq.{slice}
use Rattle.octets.specs.Number.{value}

-- the width of an address or number: 4 or 16 bytes
abbrev pub Wide : ℕ → Type 0
Wide width = (4 ≤ width) × ((width ≡ 4 → ⊥) → width ≡ 16)

-- the address or number of a width that stands at a position
abbrev pub number_in : List ℕ → ℕ → ℕ → ℕ
number_in s at width = value (slice at (at + width) s)
