-- `bottom::holders` meets its contract: what is found so far, followed by what the rest gives, is the answer.
use Prim.Native.Nat.{◌-◌, ◌≤◌}
use mathlib.Core.Path.{◌≡◌}
use mathlib.Core.List.{◌++◌}
use lib.ListN.{length, take, drop}
use Rattle.address.specs.Address.{numbers}
use Rattle.forest.specs.Relations.{select}
use Rattle.scans.specs.Standing.{blocks_in}
use Rattle.bottom.specs.Testing.{is_holder, holders_of}
use Rattle.bottom.proofs.holders.Given as goal

abbrev pub invariant-loop-i : goal.invariant-loop-i
invariant-loop-i l = (l.i ≤ l.n)
    × (l.m ≤ l.i)
    × (length l.hits ≡ 4096)
    × (take l.m l.hits ++ select (is_holder (blocks_in l.image l.family) (numbers l.range)) (drop l.i (blocks_in l.image l.family))
    ≡ holders_of (blocks_in l.image l.family) (numbers l.range))
