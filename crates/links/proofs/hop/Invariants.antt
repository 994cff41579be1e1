-- `links::hop` meets its contract: all blocks that were hopped over lie inside block i.
use Prim.Native.Nat.{◌+◌, ◌-◌, ◌*◌, ◌≤◌}
use mathlib.Core.Path.{◌≡◌, refl}
use native.Mathlib.Omega.{arith}
use borrow.Author.Tests.{not-true, not-false}
use lib.ListN.{length, get_or}
use Rattle.registry.specs.Tags.{width_of}
use Rattle.nesting.proofs.Families.{wide-family}
use Rattle.scans.specs.Standing.{blocks_in}
use Rattle.links.specs.Links.{Link}
use Rattle.links.proofs.Hops.{Hopping, hops_start, hops_next, hops_stop, hops_end}
use borrow.Author.Rules.{rules}
use Rattle.links.proofs.hop.Given as goal

abbrev pub invariant-loop-j : goal.invariant-loop-j
invariant-loop-j l = (l.width ≡ width_of l.family) × (l.end ≡ get_or l.firsts l.i 0 + l.width) × Hopping (blocks_in l.image l.family) l.i l.j

abbrev pub decreases-loop-j : goal.decreases-loop-j
decreases-loop-j l = l.n - l.j
