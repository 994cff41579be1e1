-- Registered blocks of one family (S10.1).
use Rattle.std.specs.Prelude.{ℕ, suc, List, [], ◌∷◌, eqb}
use Rattle.octets.specs.Lists.{keep}
use Rattle.address.specs.Ranges.{Range}
use Rattle.records.specs.Record.{Record, range_of}

-- A record 10, 11 or 12: its record number and its range.
pub record Block : Type 0 where
  pub number : ℕ
  pub range : Range

-- The blocks of a family, a tag, among records of which the first has number n.
abbrev pub blocks_from : ℕ → ℕ → List Record → List Block
blocks_from family n [] = []
blocks_from family n (r ∷ records) = keep (eqb r.tag family) (record { number = n; range = range_of r }) (blocks_from family (suc n) records)

-- Records are numbered from 0, in image order.
abbrev pub blocks_of : ℕ → List Record → List Block
blocks_of family records = blocks_from family 0 records
