-- Only a block after a block of its tag is nested.
use mathlib.Core.Path.{refl, sym, ◌∙◌, subst}
use Prim.Native.Nat.{ℕ}
use native.Mathlib.Omega.{arith}
use Rattle.records.specs.Record.{Record}
use Rattle.records.proofs.Shapes.{a_block}
use Rattle.placing.proofs.Steps.{nest-other, nest-named, nest-family}
use Rattle.merged.specs.Held.{parsed_from}
use Rattle.merged.proofs.Known.{Known, known}
use Rattle.overlaps.specs.Overlaps.{OpenBlocks, open_last}
use Rattle.overlaps.proofs.nest_after.Goals as goal
use Rattle.overlaps.proofs.nest_after.Goals.{Start}

-- what is known of the record
own : (a : Start) → Known a.args.r.now
own a = known _ a.requires.1

abbrev q : Start → Record
q a = parsed_from a.args.r.now

abbrev lasts : Start → ℕ → ℕ
lasts a = open_last a.args.records.now a.args.stack.now

pub bounds-r-0 : goal.bounds-r-0
bounds-r-0 c = omega (arith, ((known _ c.requires.1)).long)

pub returns-then-r-gt-AS_BLOCK : goal.returns-then-r-gt-AS_BLOCK
returns-then-r-gt-AS_BLOCK c =
    sym (nest-named (lasts (goal.at.returns-then-r-gt-AS_BLOCK c).Start) c.args.before (q (goal.at.returns-then-r-gt-AS_BLOCK c).Start) c.args.depth (omega (arith, (own (goal.at.returns-then-r-gt-AS_BLOCK c).Start).tag_is, c.if-r-gt-AS_BLOCK.true)))

pub bounds-r-0-2 : goal.bounds-r-0-2
bounds-r-0-2 c = omega (arith, ((known _ c.requires.1)).long)

pub returns-then-r-before : goal.returns-then-r-before
returns-then-r-before c =
    sym (nest-other (lasts (goal.at.returns-then-r-before c).Start) c.args.before (q (goal.at.returns-then-r-before c).Start) c.args.depth (λ e. c.if-r-before.true ((own (goal.at.returns-then-r-before c).Start).tag_is ∙ sym e)))

pub nest-requires : goal.nest-requires
nest-requires c =
    let e = sym c.if-r-before.false ∙ (own (goal.at.nest-requires c).Start).tag_is in
    let h = c.if-r-gt-AS_BLOCK.false in
    record {
      few = c.requires.0;
      whole = c.requires.1;
      block = omega (arith, (own (goal.at.nest-requires c).Start).tag_is, h);
      opened = subst (OpenBlocks c.args.records.now c.args.stack.now c.args.depth) e (c.requires.2 e (omega (arith, c.if-r-before.false, h)));
    }

pub returns : goal.returns
returns c =
    let h = a_block (q (goal.at.returns c).Start).tag (own (goal.at.returns c).Start).low (omega (arith, (own (goal.at.returns c).Start).tag_is, c.if-r-gt-AS_BLOCK.false)) in
    c.nest.ensures ∙ sym (nest-family (lasts (goal.at.returns c).Start) c.args.before (q (goal.at.returns c).Start) c.args.depth h (sym c.if-r-before.false ∙ (own (goal.at.returns c).Start).tag_is) _ refl)
