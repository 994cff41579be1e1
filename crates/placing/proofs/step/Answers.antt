-- By the kind and the tags; records of one tag by their names, or by their ranges and the open blocks. Each return is a law of Steps.antt.
use mathlib.Core.Path.{◌≡◌, refl, sym, ◌∙◌}
use borrow.Author.Tests.{eq-eqb, ne_eqb}
use native.Mathlib.Omega.{arith}
use Rattle.registry.specs.Tags.{width_of}
use Rattle.placing.proofs.Steps.{before, step_other, step-named, block_room, step_block}
use Rattle.placing.proofs.step.Goals as goal
use Rattle.placing.proofs.step.Goals.{Else-tag-eq-IPV6_NETWORK, Then-tag-eq-IPV6_NETWORK}

pub returns-then-family-tag : goal.returns-then-family-tag
returns-then-family-tag c = c.other_tag.ensures ∙ step_other c.requires c.if-family-tag.true

pub named_after-requires : goal.named_after-requires
named_after-requires c =
    (before c.requires c.if-family-tag.false, c.requires.laid, c.if-family-tag.false, c.if-tag-gt-AS_BLOCK.true)

pub returns-then-named_after : goal.returns-then-named_after
returns-then-named_after c =
    step-named c.requires c.if-family-tag.false c.if-tag-gt-AS_BLOCK.true _ (sym c.named_after.ensures ∙ c.if-named_after.true)

pub returns-then-tag-gt-AS_BLOCK : goal.returns-then-tag-gt-AS_BLOCK
returns-then-tag-gt-AS_BLOCK c =
    step-named c.requires c.if-family-tag.false c.if-tag-gt-AS_BLOCK.true _ (sym c.named_after.ensures ∙ c.if-named_after.false)

pub returns-then-family-tag-2 : goal.returns-then-family-tag-2
returns-then-family-tag-2 c = c.other_tag-then-family-tag-2.ensures ∙ step_other c.requires c.if-family-tag-2.true

pub overflow_add-from : goal.overflow_add-from
overflow_add-from c =
    omega (arith, (block_room c.requires c.if-family-tag-2.false c.if-tag-gt-AS_BLOCK.false _ refl).before)

pub overflow_add-start : goal.overflow_add-start
overflow_add-start c =
    omega (arith, (block_room c.requires c.if-family-tag-2.false c.if-tag-gt-AS_BLOCK.false _ refl).room.own)

wide : (c : Then-tag-eq-IPV6_NETWORK) → 16 ≡ width_of c.args.r.tag
wide c = rw (eq-eqb c.args.r.tag 17 c.if-tag-eq-IPV6_NETWORK.true)

pub block_after-requires : goal.block_after-requires
block_after-requires c =
    block_room c.requires c.if-family-tag-2.false c.if-tag-gt-AS_BLOCK.false 16 (wide c)

pub returns-then-tag-eq-IPV6_NETWORK : goal.returns-then-tag-eq-IPV6_NETWORK
returns-then-tag-eq-IPV6_NETWORK c =
    c.block_after.ensures ∙ step_block c.requires c.if-family-tag-2.false c.if-tag-gt-AS_BLOCK.false 16 (wide (goal.at.returns-then-tag-eq-IPV6_NETWORK c).Then-tag-eq-IPV6_NETWORK)

narrow : (c : Else-tag-eq-IPV6_NETWORK) → 4 ≡ width_of c.args.r.tag
narrow c = rw (ne_eqb c.args.r.tag 17 c.if-tag-eq-IPV6_NETWORK.false)

pub block_after-requires-2 : goal.block_after-requires-2
block_after-requires-2 c =
    block_room c.requires c.if-family-tag-2.false c.if-tag-gt-AS_BLOCK.false 4 (narrow c)

pub returns : goal.returns
returns c =
    c.block_after-2.ensures ∙ step_block c.requires c.if-family-tag-2.false c.if-tag-gt-AS_BLOCK.false 4 (narrow (goal.at.returns c).Else-tag-eq-IPV6_NETWORK)
