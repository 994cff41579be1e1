-- Both fit 32 bits.
use mathlib.Core.Path.{refl}
use Rattle.c_numbers.specs.Numbers.{part_numbers}
use borrow.Author.Rules.{rules}
use Rattle.c_numbers.proofs.span_numbers.Goals as goal

pub returns : goal.returns
unfolding part_numbers
returns c = refl
