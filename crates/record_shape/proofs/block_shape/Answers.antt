-- Each size is that of the range of the tag.
use borrow.Author.Tests.{eq-eqb, ne_eqb}
use Rattle.record_shape.proofs.block_shape.Goals as goal

pub sized_shape-requires : goal.sized_shape-requires
sized_shape-requires c =
    (c.requires.0, c.requires.1, c.requires.2, c.requires.3, rw (eq-eqb _ _ c.if-field-eq-IPV6_NETWORK.true))

pub sized_shape-requires-2 : goal.sized_shape-requires-2
sized_shape-requires-2 c =
    (c.requires.0, c.requires.1, c.requires.2, c.requires.3, rw (ne_eqb _ _ c.if-field-eq-IPV6_NETWORK.false))
