-- `links::links_of` meets its contract: the blocks from index i on have their links.
use Prim.Native.Nat.{◌-◌, ◌≤◌}
use mathlib.Core.Path.{◌≡◌, refl, ◌∙◌}
use native.Mathlib.Omega.{arith}
use lib.ListN.{length, length-set}
use Rattle.scans.specs.Standing.{blocks_in}
use Rattle.links.specs.Links.{Linked}
use Rattle.links.proofs.Hops.{linked-more}
use borrow.Author.Rules.{rules}
use Rattle.links.proofs.links_of.Given as goal

abbrev pub invariant-loop-i : goal.invariant-loop-i
invariant-loop-i l = (length l.links ≡ 4096) × (l.i ≤ l.n) × Linked (blocks_in l.image l.family) l.links l.i
