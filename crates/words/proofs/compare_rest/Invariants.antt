-- The loop's invariant: what is left from i on decides.
use Rattle.std.proofs.Common.{◌≡◌, ◌≤◌, length, drop}
use Rattle.octets.specs.Order.{compared}
use Rattle.words.proofs.compare_rest.Given as goal

abbrev pub invariant-loop-i : goal.invariant-loop-i
invariant-loop-i l = (l.i ≤ length l.a) × (l.i ≤ length l.b) × (compared (drop l.i l.a) (drop l.i l.b) ≡ compared (drop l.from l.a) (drop l.from l.b))
