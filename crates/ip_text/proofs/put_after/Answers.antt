-- The given bytes, and the numbers in the rest of the buffer after them.
use Rattle.output.proofs.Writing.{written_both}
use Rattle.ip_text.proofs.put_after.Goals as goal

pub returns : goal.returns
returns c =
    written_both c.put_bytes-at.ensures c.put_spelled.ensures
