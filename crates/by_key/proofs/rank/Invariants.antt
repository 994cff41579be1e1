-- The rank lies between low and high (Ranks.antt).
use Prim.Native.Nat.{◌-◌}
use Rattle.changes.specs.Change.{keyed}
use Rattle.merged.specs.Listed.{listed}
use Rattle.by_key.proofs.Ranks.{Ranked}
use Rattle.by_key.proofs.rank.Given as goal

abbrev pub invariant-loop-low : goal.invariant-loop-low
invariant-loop-low l = Ranked (keyed l.tag l.key) (listed l.records) l.records.count l.low l.high

abbrev pub decreases-loop-low : goal.decreases-loop-low
decreases-loop-low l = l.high - l.low
