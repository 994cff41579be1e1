-- What is written so far, followed by the numbers that are left, is the whole.
use lib.ListN.{drop}
use Rattle.numeral.specs.Digits.{following}
use Rattle.digits.specs.Base.{radix}
use Rattle.output.specs.Writing.{Reached}
use Rattle.separated.proofs.put_following.Given as goal

abbrev pub invariant-loop-n : goal.invariant-loop-n
invariant-loop-n l = Reached (following l.sep (radix l.base) l.numbers) (following l.sep (radix l.base) (drop l.n-index l.numbers)) l.initial.text l.text l.at
