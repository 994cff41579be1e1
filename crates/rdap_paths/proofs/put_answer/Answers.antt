-- The line stands after what was put, since there is room.
use Rattle.lines.proofs.Lines.{line_at}
use Rattle.rdap_paths.proofs.put_answer.Goals as goal

pub returns : goal.returns
returns c = line_at c.args.out.now c.args.at c.put_answer.ensures c.requires
