-- Field by field.
use mathlib.Core.Path.{refl}
use Rattle.answers.specs.Answered.{reply_of}
use Rattle.c_numbers.specs.Numbers.{numbers_of}
use borrow.Author.Rules.{rules}
use Rattle.c_numbers.proofs.numbers.Goals as goal

pub returns : goal.returns
unfolding numbers_of reply_of
returns c = rw (c.status-status.ensures, c.number-reason.ensures, c.kind_number-kind.ensures, c.relation_number-relation.ensures) refl
