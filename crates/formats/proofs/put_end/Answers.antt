-- The end of the last one, where none is left.
use native.Mathlib.Omega.{arith}
use borrow.Author.Tests.{eq-eqb, ne_eqb}
use Rattle.formats.specs.Template.{end_of}
use Rattle.formats.proofs.put_end.Goals as goal

pub put_last-requires : goal.put_last-requires
unfolding end_of
put_last-requires c = rw (eq-eqb c.args.left 0 (omega arith)) at c.requires

pub returns-then-left-eq0 : goal.returns-then-left-eq0
unfolding end_of
returns-then-left-eq0 c = rw (eq-eqb c.args.left 0 (omega arith)) c.put_last.ensures

pub put_separator-requires : goal.put_separator-requires
unfolding end_of
put_separator-requires c = rw (ne_eqb c.args.left 0 (λ e. omega arith)) at c.requires

pub returns : goal.returns
unfolding end_of
returns c = rw (ne_eqb c.args.left 0 (λ e. omega arith)) c.put_separator.ensures
