-- `scans::children` meets its contract: what is found so far, followed by what the pass over the rest finds, is the answer.
use Prim.Native.Nat.{◌≤◌, ◌<◌, ◌+◌, ◌*◌}
use mathlib.Core.List.{◌++◌}
use mathlib.Core.Path.{◌≡◌}
use lib.ListN.{length, take}
use Rattle.address.specs.Address.{numbers}
use Rattle.octets.specs.Positions.{number_in}
use Rattle.forest.specs.Relations.{down}
use Rattle.forest.specs.Scans.{down_pass}
use Rattle.scans.specs.Standing.{blocks_in}
use Rattle.containment.specs.Tests.{free_after}
use Rattle.scans.proofs.Walks.{blocks_left}
use Rattle.scans.proofs.children.Given as goal

abbrev pub invariant-loop-i : goal.invariant-loop-i
invariant-loop-i l = (l.fn.blocks.from ≤ l.i)
    × (l.i ≤ l.fn.blocks.until)
    × (l.n ≤ l.i)
    × (length l.hits ≡ 4096)
    × (0 < l.n → l.kept + 2 * l.width ≤ length l.image)
    × (take l.n l.hits ++ down_pass (numbers l.range) (free_after l.n (number_in l.image (l.kept + l.width) l.width)) (blocks_left l.image l.fn.blocks.low l.i)
    ≡ down (blocks_in l.image l.fn.blocks.low) (numbers l.range))
