-- One after another.
use Rattle.output.proofs.Writing.{written_both}
use Rattle.formats.proofs.put_around.Goals as goal

pub returns : goal.returns
returns c = written_both (written_both c.put_bytes-at.ensures c.put_bytes-at-2.ensures) c.put_bytes.ensures
