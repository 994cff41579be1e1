-- `read_decimal` is `decimal`: a leading zero is refused, the rest is the numeral's reader.
use mathlib.Core.Bool.{true, false}
use mathlib.Core.Path.{◌≡◌, ◌∙◌}
use native.Mathlib.Omega.{arith}
use borrow.Author.Tests.{eq-eqb, ne_eqb}
use Rattle.numeral.specs.Numeral.{leading_zero, decimal}
use Rattle.numeral.proofs.Laws.{zero-short, zero-first}
use Rattle.numeral.proofs.read_decimal.Goals as goal
use Rattle.numeral.proofs.read_decimal.Goals.{else-s-gt1-via-then-s-gt1+else-s-eq48, else-s-gt1-via-else-s-gt1}

pub returns-then-s-eq48 : goal.returns-then-s-eq48
unfolding decimal
returns-then-s-eq48 c =
    let e : leading_zero c.args.s.now ≡ true = zero-first c.args.s.now (omega arith) ∙ eq-eqb _ 48 c.if-s-eq48.true in
    rw e

pub returns : goal.returns
unfolding decimal
returns c =
    let s = c.args.s.now in
    let e : leading_zero s ≡ false =
    elim c.else-s-gt1.branch [
      | else-s-gt1-via-then-s-gt1+else-s-eq48 w ↦ zero-first s (omega arith) ∙ ne_eqb _ 48 w.if-s-eq48.false
      | else-s-gt1-via-else-s-gt1 w ↦ zero-short s (omega arith)
    ] in
    rw e c.read_numeral.ensures
