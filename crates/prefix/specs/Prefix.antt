-- The range of a prefix, at every width (S8.3).
use Rattle.std.specs.Prelude.{ℕ, ◌+◌, ◌-◌, ◌^◌, ◌%◌, cond, eqb, Option, None, Some}
use Rattle.address.specs.Ranges.{Range}

-- The addresses, of so many bits, that begin with the first l bits of first; none where one of its bits after l is not zero.
unfoldable pub prefix_range : (bits first l : ℕ) → Option Range
prefix_range bits first l =
    let size : ℕ = 2 ^ (bits - l) in
    cond (eqb (first % size) 0) (Some (record { first = first; last = first + size - 1 })) None
