-- By the tag: a range, a handle or a host name (Changes.antt).
use native.Mathlib.Omega.{arith}
use Rattle.nesting.proofs.Families.{wide-family}
use Rattle.one_change.proofs.Changes.{key-length, key-range, key-handle, key-host}
use Rattle.one_change.proofs.good_key.Goals as goal

pub returns-then-key-width : goal.returns-then-key-width
returns-then-key-width c = key-length _ _ c.requires.0 c.if-tag-le-AS_BLOCK.true (rw c.width_of-width.ensures.0 at c.if-key-width.true)

pub numbers_at_most-requires : goal.numbers_at_most-requires
numbers_at_most-requires c =
    let e = c.width_of-width.ensures.0 in
    (rw e (wide-family c.args.tag), omega (arith, c.if-key-width.false), omega (arith, c.if-key-width.false))

pub returns-then-tag-le-AS_BLOCK : goal.returns-then-tag-le-AS_BLOCK
returns-then-tag-le-AS_BLOCK c =
    let e = c.width_of-width.ensures.0 in
    key-range _ _ c.requires.0 c.if-tag-le-AS_BLOCK.true (rw e at c.if-key-width.false) _ (rw e at c.numbers_at_most.ensures)

pub returns-then-tag-eq-ENTITY : goal.returns-then-tag-eq-ENTITY
returns-then-tag-eq-ENTITY c = key-handle _ _ c.if-tag-le-AS_BLOCK.false c.if-tag-eq-ENTITY.true _ c.text_ok.ensures

pub returns : goal.returns
returns c = key-host _ _ c.if-tag-le-AS_BLOCK.false c.requires.1 c.if-tag-eq-ENTITY.false _ c.host_ok.ensures
