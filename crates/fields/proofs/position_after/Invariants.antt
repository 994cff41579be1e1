-- The loop: what is left to pass, from where the reader stands, is what the whole walk passes.
use mathlib.Core.Path.{◌≡◌}
use Prim.Native.Nat.{◌-◌}
use lib.ListN.{length}
use Rattle.fields.specs.Positions.{passed}
use Rattle.fields.proofs.position_after.Given as goal

abbrev pub invariant-loop : goal.invariant-loop
invariant-loop l = passed l.image (l.n - l.counter) l.to (length l.image) ≡ passed l.image l.n l.at (length l.image)
