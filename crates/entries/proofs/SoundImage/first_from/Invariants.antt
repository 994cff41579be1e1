-- The loop: the records before low have lower tags, those from high on have not (Halved in Halves.antt).
use Prim.Native.Nat.{◌-◌}
use Rattle.halves.proofs.Halves.{Halved}
use Rattle.entries.proofs.Tags.{below, not_below}
use Rattle.entries.proofs.SoundImage.first_from.Given as goal

abbrev pub invariant-loop-low : goal.invariant-loop-low
invariant-loop-low l = Halved (below l.self.bytes.now l.tag) (not_below l.self.bytes.now l.tag) 0 l.self.count l.low l.high

abbrev pub decreases-loop-low : goal.decreases-loop-low
decreases-loop-low l = l.high - l.low
