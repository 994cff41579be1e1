-- Serves contracts and proofs. A range among those of the open blocks of its family, the innermost last.
use Rattle.std.specs.Prelude.{cond, Option, Some, None, List, ℕ, zero, suc, ◌+◌, ◌*◌, ◌≤◌, ◌<◌, leb, length, get_or}
use Rattle.octets.specs.Positions.{Wide}
use Rattle.address.specs.Ranges.{Range}
use Rattle.address.specs.Positions.{range_in}

-- A range goes under the innermost open block that does not end before it, and has to lie inside it: under how many it lies. `lasts d` is the last address of open block d.
abbrev pub nest_of : (ℕ → ℕ) → Range → ℕ → Option ℕ
nest_of lasts r zero = Some 0
nest_of lasts r (suc d) = cond (leb r.first (lasts d)) (cond (leb r.last (lasts d)) (Some (suc d)) None) (nest_of lasts r d)

-- In positions: the ranges of the open blocks start at the first `depth` positions of `stack` in `o`

-- all these ranges lie there
abbrev pub Opened : List ℕ → ℕ → List ℕ → ℕ → Type 0
Opened o width stack depth = (d : ℕ) → d < depth → get_or stack d 0 + 2 * width ≤ length o

-- the last address of open block d
abbrev pub open_last : List ℕ → ℕ → List ℕ → ℕ → ℕ
open_last o width stack d = (range_in o (get_or stack d 0) width).last

-- a range that starts at a position of `s`, and those of the open blocks
pub record NestRoom (s : List ℕ) (start width : ℕ) (o stack : List ℕ) (depth : ℕ) : Type 0 where
  pub wide : Wide width
  pub own : start + 2 * width ≤ length s
  pub few : depth ≤ length stack
  pub opened : Opened o width stack depth
