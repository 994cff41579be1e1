-- A law of numbers.
use Rattle.next_prefix.proofs.Ends.{zeros-end}
use Rattle.next_prefix.proofs.zeros_end.Goals as goal

pub returns : goal.returns
returns c = zeros-end c.args.start c.ranges.start.fits
