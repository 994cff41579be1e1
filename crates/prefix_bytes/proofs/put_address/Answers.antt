-- Four bytes copied to the front, or sixteen in two halves, the second into the rest of the buffer.
use Rattle.output.proofs.Writing.{written_both}
use Rattle.prefix_bytes.proofs.Bytes.{copied, two-halves}
use Rattle.prefix_bytes.proofs.put_address.Goals as goal

pub returns-then-width-eq4 : goal.returns-then-width-eq4
returns-then-width-eq4 c =
    rw c.if-width-eq4.true (copied 4 c.args.a c.args.out.now c.copy_from_slice.ensures.after c.to_be_bytes.ensures)

pub returns : goal.returns
returns c = rw (c.requires.0.1 c.if-width-eq4.false, two-halves c.args.a) (written_both c.put8.ensures c.put8-2.ensures)
