-- How many prefixes a range of addresses has at most.
use Prim.Native.Nat.{ℕ, ◌+◌, ◌-◌, ◌*◌, ◌≤◌}
use mathlib.Core.Path.{◌≡◌, sym, ◌∙◌}
use native.Mathlib.Omega.{arith}
use lib.ListN.{length}
use Rattle.cidr.specs.Prefixes.{from-to, prefixes_of}
use Rattle.cidr.proofs.Greedy.{wider}
use Rattle.cidr.proofs.Theorem.{shortest}
use Rattle.next_prefix.specs.Walked.{walked}
use Rattle.prefix_bytes.proofs.Widths.{at-most-sixteen}
use Rattle.prefix_walk.specs.Entries.{Ordered}

module _ {width : ℕ} {first last : ℕ} (o : Ordered width first last) where
  -- the code walks at 128 bits
  pub at_width : prefixes_of (8 * width) (from-to first last) ≡ walked first last
  at_width =
      let e : 128 - 8 * width + 8 * width ≡ 128 = omega (arith, at-most-sixteen o.wide) in
      sym (wider (from-to first last) (8 * width) (128 - 8 * width) o.below) ∙ rw e

  pub few : length (walked first last) ≤ 16 * width - 2
  few = omega (arith, rw at_width at ((shortest (8 * width) (from-to first last) o.below).few (omega (arith, o.wide.0))))
