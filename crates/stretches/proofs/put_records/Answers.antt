use borrow.Author.Rules.{rules}
use Rattle.output.proofs.Writing.{next-part, at-end}
use Rattle.stretches.proofs.Rows.{no_record}
use Rattle.stretches.proofs.put_records.Goals as goal

pub loop-i-preserved : goal.loop-i-preserved
loop-i-preserved c =
    let w = c.put_next-put.ensures in
    (w.few, next-part c.loop-i.invariant.1 (record { is = w.joined }) w.written)

pub returns : goal.returns
returns c =
    let m = c.args.records.now in
    at-end (rw (no_record m.image.now m.changes.now m.starts m.count (search rules) {i = c.loop-i.i} c.loop-i-test.false) at c.loop-i.invariant.1)
