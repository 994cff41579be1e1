-- The two numbers of the answer are written.
use mathlib.Core.Path.{ap, ◌∙◌}
use borrow.Author.Rules.{rules}
use Rattle.c_numbers.specs.Numbers.{counted_numbers}
use Rattle.rdap_c.proofs.rdap_address_text.Goals as goal

pub returns : goal.returns
returns c = let answered = c.address_text-a.ensures in record { reply = c.counted_numbers.ensures ∙ ap counted_numbers answered.numbers; text = answered.text }
