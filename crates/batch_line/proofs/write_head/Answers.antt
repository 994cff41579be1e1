-- Four numbers at the front.
use native.Mathlib.Omega.{arith}
use lib.ListN.{length-set}
use Rattle.answers.specs.Reply.{line}
use Rattle.answers.specs.Answered.{reply_of}
use Rattle.output.proofs.Writing.{four-set}
use borrow.Author.Rules.{rules}
use Rattle.batch_line.proofs.write_head.Goals as goal

pub bounds-list-1 : goal.bounds-list-1
bounds-list-1 c = simp length-set (omega arith)

pub bounds-list-2 : goal.bounds-list-2
bounds-list-2 c = simp length-set (omega arith)

pub returns : goal.returns
unfolding line reply_of
returns c = let a = c.args in rw (c.status.ensures, c.number.ensures, c.kind_number.ensures) (four-set _ _ _ _ a.list.now (omega arith))
