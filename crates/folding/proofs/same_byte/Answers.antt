-- `same_byte`: equal bytes fold to equal ones; others are compared as they are, or folded.
use mathlib.Core.Path.{sym, ap, ◌∙◌}
use borrow.Author.Tests.{eq-eqb, ne_eqb}
use Rattle.texts.specs.Compare.{fold_if}
use Rattle.folding.proofs.same_byte.Goals as goal

pub returns-then-c-d : goal.returns-then-c-d
returns-then-c-d c = eq-eqb _ _ c.if-c-d.true ∙ sym (eq-eqb _ _ (ap (fold_if c.args.fold) c.if-c-d.true))

pub returns-then-fold : goal.returns-then-fold
unfolding fold_if
returns-then-fold c = rw (c.if-fold.true, c.folded.ensures, c.folded-then-fold.ensures)

pub returns-else-fold : goal.returns-else-fold
unfolding fold_if
returns-else-fold c = rw c.if-fold.false (sym (ne_eqb c.args.c c.args.d c.if-c-d.false))
