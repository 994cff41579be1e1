-- What the comparison tells of the first text.
use mathlib.Core.Path.{sym, ◌∙◌}
use Rattle.octets.proofs.Order.{told-first}
use Rattle.words.proofs.bytes_at_most.Goals as goal

pub returns : goal.returns
returns c = c.is_le.ensures ∙ sym (told-first _ _ (sym c.compare.ensures))
