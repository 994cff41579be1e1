-- Offset and length of the span that the crate below finds; both fit.
use mathlib.Core.Path.{ap, ◌∙◌}
use Rattle.c_numbers.specs.Numbers.{part_numbers}
use Rattle.rdap_c.proofs.Parts.{end-small}
use borrow.Author.Rules.{rules}
use Rattle.rdap_c.proofs.part_numbers.Goals as goal

pub span_numbers-requires : goal.span_numbers-requires
span_numbers-requires c = (c.part_span-span.ensures.inside.forward, end-small c.part_span-span.ensures)

pub returns : goal.returns
returns c = c.span_numbers.ensures ∙ ap part_numbers c.part_span-span.ensures.same
