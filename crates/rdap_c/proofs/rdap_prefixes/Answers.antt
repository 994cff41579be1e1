-- The two numbers of the answer are written.
use mathlib.Core.Path.{ap, ◌∙◌}
use borrow.Author.Rules.{rules}
use Rattle.c_numbers.specs.Numbers.{counted_numbers}
use Rattle.rdap_c.proofs.rdap_prefixes.Goals as goal

pub returns : goal.returns
returns c = let answered = c.prefixes-a.ensures in record { reply = c.counted_numbers.ensures ∙ ap counted_numbers answered.numbers; out = answered.out }
