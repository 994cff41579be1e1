use Rattle.merged.proofs.Fields.{start-image, start-changes}
use Rattle.merged.proofs.Records.record_at.Goals as goal

pub returns-then-start-lt-IMAGE_END : goal.returns-then-start-lt-IMAGE_END
returns-then-start-lt-IMAGE_END c = start-image c.args.self.now.image.now c.args.self.now.changes.now _ c.args.start c.if-start-lt-IMAGE_END.true c.field_bytes.ensures

pub returns-else-start-lt-IMAGE_END : goal.returns-else-start-lt-IMAGE_END
returns-else-start-lt-IMAGE_END c = start-changes c.args.self.now.image.now c.args.self.now.changes.now _ c.args.start c.if-start-lt-IMAGE_END.false c.field_bytes-else-start-lt-IMAGE_END.ensures
