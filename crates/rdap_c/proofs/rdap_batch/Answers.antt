-- The call answers, and the numbers of its answer are written.
use mathlib.Core.Path.{◌∙◌}
use Rattle.c_numbers.proofs.Written.{written}
use borrow.Author.Rules.{rules}
use Rattle.rdap_c.proofs.rdap_batch.Goals as goal

pub returns : goal.returns
returns c =
    let answered = c.batch-a.ensures in
    record { reply = c.numbers.ensures ∙ written answered; list = answered.list }
