-- `read_h16` is `h16`: more than four digits are refused, the rest is the numeral's reader.
use borrow.Author.Tests.{le-leb, lt-leb}
use Rattle.numeral.specs.Numeral.{h16}
use Rattle.numeral.proofs.read_h16.Goals as goal

pub returns-then-s-gt4 : goal.returns-then-s-gt4
unfolding h16
returns-then-s-gt4 c = rw (lt-leb _ _ c.if-s-gt4.true)

pub returns : goal.returns
unfolding h16
returns c = rw (le-leb _ _ c.if-s-gt4.false) c.read_numeral.ensures
