-- Half of what is left, rounded down.
use native.Mathlib.Omega.{arith}
use Rattle.halves.proofs.middle.Goals as goal

pub returns : goal.returns
returns c = (omega arith, omega arith, omega arith, omega arith)
