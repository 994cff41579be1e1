-- Field 23, which was found, ends past its head.
use mathlib.Core.Path.{sym}
use native.Mathlib.Omega.{arith}
use Rattle.record_defect.proofs.Passing.{reached}
use Rattle.record_defect.proofs.block_end.Goals as goal

pub overflow_add-to : goal.overflow_add-to
overflow_add-to c = let b = reached _ _ _ _ _ (sym c.in_ok-last.ensures) in omega (arith, b.forward, b.within)

pub overflow_add-to-2 : goal.overflow_add-to-2
overflow_add-to-2 c = let b = reached _ _ _ _ _ (sym c.in_ok-last.ensures) in omega (arith, b.forward, b.within, c.requires.1)
