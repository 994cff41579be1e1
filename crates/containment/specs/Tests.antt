-- Serves contracts and proofs. The tests on ranges where they stand in an image.
use Rattle.std.specs.Prelude.{ℕ, suc, ◌+◌, ◌*◌, ◌≤◌, Bool, true, false, cond, ◌&&◌, List, eqb, leb, length}
use Rattle.address.specs.Ranges.{Range, covers, strictly_covers, strictly_inside}
use Rattle.octets.specs.Positions.{Wide}

-- a range of a width at a position
pub record Comparable (s : List ℕ) (at width : ℕ) : Type 0 where
  pub wide : Wide width
  pub fits : at + 2 * width ≤ length s

-- covers, or strictly
abbrev pub surrounds_by : Bool → Range → Range → Bool
surrounds_by true r q = strictly_covers r q
surrounds_by false r q = covers r q

-- the address after the last of n blocks kept; 0 where none was kept
abbrev pub free_after : ℕ → ℕ → ℕ
free_after n last = cond (eqb n 0) 0 (suc last)

-- the test of down: strictly inside q, and not before the address that is free
abbrev pub keeps_from : ℕ → Range → Range → Bool
keeps_from free r q = strictly_inside r q && leb free r.first
