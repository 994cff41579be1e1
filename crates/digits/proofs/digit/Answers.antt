-- `digit` by its two cases.
use mathlib.Core.Path.{sym}
use native.Mathlib.Omega.{arith}
use Rattle.numeral.proofs.Digits.{digit_low, digit_high}
use borrow.Author.Rules.{rules}
use Rattle.digits.proofs.digit.Goals as goal

pub returns-then-d-lt10 : goal.returns-then-d-lt10
returns-then-d-lt10 c = sym (digit_low c.args.d (search rules))

pub returns : goal.returns
returns c = omega (arith, digit_high c.args.d (search rules))
