-- By the test of the tag.
use borrow.Author.Tests.{eq-eqb, ne_eqb}
use borrow.Author.Rules.{rules}
use Rattle.registry.proofs.width_of.Goals as goal

pub returns-then-tag-eq-IPV6_NETWORK : goal.returns-then-tag-eq-IPV6_NETWORK
returns-then-tag-eq-IPV6_NETWORK c = (rw (eq-eqb _ _ c.if-tag-eq-IPV6_NETWORK.true), search rules)

pub returns-else-tag-eq-IPV6_NETWORK : goal.returns-else-tag-eq-IPV6_NETWORK
returns-else-tag-eq-IPV6_NETWORK c = (rw (ne_eqb _ _ c.if-tag-eq-IPV6_NETWORK.false), search rules)
