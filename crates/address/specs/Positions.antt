-- Serves contracts and proofs. Ranges by their positions in a list of bytes.
use Rattle.std.specs.Prelude.{List, ℕ, ◌+◌}
use Rattle.octets.specs.Positions.{number_in}
use Rattle.address.specs.Ranges.{Range}

-- first and last, one after the other
abbrev pub range_in : List ℕ → ℕ → ℕ → Range
range_in s at width = record { first = number_in s at width; last = number_in s (at + width) width }
