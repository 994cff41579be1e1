-- The digits counted so far, and those of what is left of the number, are one more than all.
use Prim.Native.Nat.{◌+◌, ◌≤◌}
use mathlib.Core.Path.{◌≡◌}
use lib.ListN.{length}
use Rattle.numeral.specs.Digits.{numeral_text}
use Rattle.digits.proofs.count_digits.Given as goal

abbrev pub invariant-loop-v : goal.invariant-loop-v
invariant-loop-v g l = (l.k + l.v ≤ l.n + 1) × (l.k + length (numeral_text g.row.BASE l.v) ≡ length (numeral_text g.row.BASE l.n) + 1)

abbrev pub decreases-loop-v : goal.decreases-loop-v
decreases-loop-v g l = l.v
