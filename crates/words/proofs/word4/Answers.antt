-- The sum of four bytes, each by its place, is their number.
use native.Mathlib.Omega.{arith}
use Rattle.octets.proofs.Digits.{four_bytes}
use Rattle.words.proofs.word4.Goals as goal

pub returns : goal.returns
returns c = omega (arith, c.from_be_bytes.ensures, four_bytes c.args.s.now c.args.at c.requires)
