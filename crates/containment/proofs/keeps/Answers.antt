-- `containment::keeps` meets its contract.
use native.Mathlib.Omega.{arith}
use borrow.Author.Tests.{not-true, not-false}
use Rattle.containment.proofs.Cover.{keeps_no, keeps_first, keeps_later, positive}
use borrow.Author.Rules.{rules}
use Rattle.containment.proofs.keeps.Goals as goal

pub returns-then-not-strictly_inside : goal.returns-then-not-strictly_inside
returns-then-not-strictly_inside c = keeps_no _ _ c.strictly_inside.ensures _ (c.if-not-strictly_inside.true)

pub returns-then-n-eq0 : goal.returns-then-n-eq0
returns-then-n-eq0 c = keeps_first _ _ c.strictly_inside.ensures _ _ (c.if-not-strictly_inside.false) c.if-n-eq0.true

pub overflow_add-kept : goal.overflow_add-kept
overflow_add-kept c = let h = c.requires.1 (positive _ c.if-n-eq0.false) in record { fits = omega arith }

pub numbers_at_most-requires : goal.numbers_at_most-requires
numbers_at_most-requires c = let h = c.requires.1 (positive _ c.if-n-eq0.false) in (c.requires.0.wide, omega arith, omega arith)

pub returns : goal.returns
returns c = keeps_later _ _ c.strictly_inside.ensures _ _ (c.if-not-strictly_inside.false) c.if-n-eq0.false c.numbers_at_most.ensures
