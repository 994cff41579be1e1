-- By the tags, then the ranges or the texts (Keys.antt).
use mathlib.Core.Path.{◌∙◌, ap}
use mathlib.Core.Bool.{not}
use native.Mathlib.Omega.{arith}
use Rattle.records.proofs.Shapes.{no_block, a_block}
use Rattle.nesting.proofs.Families.{wide-family}
use Rattle.by_key.proofs.Keys.{other-tags, range-tags, name-tags}
use Rattle.by_key.proofs.key_after.Goals as goal

pub returns-then-p-q : goal.returns-then-p-q
returns-then-p-q c = other-tags _ _ _ _ c.if-p-q.true

pub range_after-requires : goal.range_after-requires
range_after-requires c =
    let e = c.width_of.ensures.0 in
    let z = c.if-p-q.false in
    (rw e (wide-family c.args.p), omega (arith, e, c.requires.0.sized c.if-p-le-AS_BLOCK.true), omega (arith, e, (rw (← z) at c.requires.1.sized) c.if-p-le-AS_BLOCK.true))

pub returns-then-p-le-AS_BLOCK : goal.returns-then-p-le-AS_BLOCK
returns-then-p-le-AS_BLOCK c =
    let z = c.if-p-q.false in
    let h = c.if-p-le-AS_BLOCK.true in
    c.range_after.ensures ∙ rw c.width_of.ensures.0 (range-tags c.args.p c.args.q _ _ z (a_block c.args.q c.requires.1.known (omega (arith, z, h))) (c.requires.0.sized h) ((rw (← z) at c.requires.1.sized) h))

pub returns : goal.returns
returns c =
    let z = c.if-p-q.false in
    ap not c.bytes_at_most.ensures ∙ name-tags c.args.p c.args.q _ _ z (no_block c.args.q (omega (arith, z, c.if-p-le-AS_BLOCK.false)))
