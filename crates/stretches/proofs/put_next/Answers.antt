-- A stretch of the image, or one record (Stretches.antt).
use borrow.Author.Rules.{rules}
use Rattle.stretches.proofs.Rows.{next_record}
use Rattle.stretches.proofs.Stretches.{part-short, put_record}
use Rattle.stretches.proofs.put_next.Goals as goal

pub put_bytes-size-requires-2 : goal.put_bytes-size-requires-2
put_bytes-size-requires-2 c =
    let m = c.args.records.now in
    rw c.record_at.ensures (part-short (next_record m.image.now m.changes.now m.starts m.count (search rules) c.requires.0) c.requires.2)

pub returns : goal.returns
returns c = put_record c.args.records.now (search rules) c.requires.0 (rw c.record_at.ensures at c.put_bytes-size-2.ensures)
