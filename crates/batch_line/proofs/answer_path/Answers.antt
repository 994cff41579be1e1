-- The record numbers into the rest of the list, and the four numbers before them.
use native.Mathlib.Omega.{arith}
use Rattle.image.specs.Image.{image_of}
use Rattle.batch_line.proofs.Line.{line-answered}
use borrow.Author.Rules.{rules}
use Rattle.batch_line.proofs.answer_path.Goals as goal

pub returns : goal.returns
returns c =
    let a = c.args in
    line-answered a.path.now (image_of a.image.bytes.now) _ a.list.now _ (omega arith) c.answer-a.ensures
    c.write_head.ensures c.reports.ensures
