-- The bytes that std makes of the number, copied to the front.
use Rattle.prefix_bytes.proofs.Bytes.{copied}
use Rattle.prefix_bytes.proofs.put8.Goals as goal

pub returns : goal.returns
returns c = copied 8 c.args.v c.args.out.now c.copy_from_slice.ensures.after c.to_be_bytes.ensures
