-- The loop's invariant: what is left from i on decides. Eight bytes of each are the same, or decide.
use mathlib.Core.Path.{◌≡◌}
use Prim.Native.Nat.{◌≤◌, ◌-◌}
use lib.ListN.{length, drop}
use Rattle.octets.specs.Order.{compared}
use Rattle.words.proofs.compare.Given as goal

abbrev pub invariant-loop-i : goal.invariant-loop-i
invariant-loop-i l = (l.i ≤ l.n) × (l.n ≤ length l.a) × (l.n ≤ length l.b) × (compared (drop l.i l.a) (drop l.i l.b) ≡ compared l.a l.b)

abbrev pub decreases-loop-i : goal.decreases-loop-i
decreases-loop-i l = l.n - l.i
