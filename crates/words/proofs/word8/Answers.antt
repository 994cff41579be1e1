-- The sum of eight bytes, each by its place, is their number.
use native.Mathlib.Omega.{arith}
use Rattle.octets.proofs.Digits.{eight_bytes}
use Rattle.words.proofs.word8.Goals as goal

pub returns : goal.returns
returns c = omega (arith, c.from_be_bytes.ensures, eight_bytes c.args.s.now c.args.at c.requires)
