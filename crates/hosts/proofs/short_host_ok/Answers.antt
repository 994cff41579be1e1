-- `short_host_ok`: pairs, first byte and last byte are the rule, as no label can be too long.
use mathlib.Core.Path.{◌∙◌, sym}
use borrow.Author.Rules.{rules}
use Rattle.hosts.proofs.Hosts as hosts
use Rattle.hosts.proofs.short_host_ok.Goals as goal

pub returns-then-not-host_pairs : goal.returns-then-not-host_pairs
returns-then-not-host_pairs c = hosts.host_unpaired _ (search rules) (search rules) (sym c.host_pairs.ensures ∙ c.if-not-host_pairs.true)

pub returns : goal.returns
returns c =
    rw c.letter_or_digit.ensures
    (hosts.host_paired _ (search rules) (search rules) (sym c.host_pairs.ensures ∙ c.if-not-host_pairs.false))
