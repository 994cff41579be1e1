-- Serves contracts and proofs. When a prefix has an entry of so many bytes.
use Rattle.std.specs.Prelude.{ℕ, ◌*◌, ◌^◌, ◌≤◌, ◌<◌}
use Rattle.octets.specs.Positions.{Wide}

-- a prefix whose address has so many bytes
pub record EntryFits (width first free : ℕ) : Type 0 where
  pub wide : Wide width
  pub address : first < 2 ^ (8 * width)
  pub short : free ≤ 8 * width
