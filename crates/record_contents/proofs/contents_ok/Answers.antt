-- Of a block the status and the range, then the texts (Blocks.antt).
use mathlib.Core.Path.{◌≡◌, sym, ◌∙◌}
use borrow.Author.Tests.{lt-ltb}
use Rattle.records.specs.Record.{good_block}
use Rattle.records.specs.Layout.{record_on}
use Rattle.record_contents.proofs.Blocks.{named-good, bad-block, by-texts}
use Rattle.record_contents.proofs.contents_ok.Goals as goal
use Rattle.record_contents.proofs.contents_ok.Goals.{Joined-r-gt-AS_BLOCK, then-r-gt-AS_BLOCK, else-r-gt-AS_BLOCK}

-- a block is tested; another record has no range and no status
tested : (c : Joined-r-gt-AS_BLOCK) → c.if-r-gt-AS_BLOCK.value ≡ good_block (record_on c.args.image.now c.args.r)
tested c =
    elim c.if-r-gt-AS_BLOCK.branch [
      | then-r-gt-AS_BLOCK w ↦ w.value-is ∙ lt-ltb _ _ w.if-r-gt-AS_BLOCK.true ∙ sym (named-good c.args.image.now c.args.r c.requires.laid w.if-r-gt-AS_BLOCK.true)
      | else-r-gt-AS_BLOCK w ↦ w.value-is ∙ w.block_ok.ensures
    ]

pub returns-then-block_ok : goal.returns-then-block_ok
returns-then-block_ok c =
    c.texts_ok.ensures
    ∙ by-texts c.args.image.now c.args.r c.requires.laid (sym (tested (goal.at.returns-then-block_ok c).Joined-r-gt-AS_BLOCK) ∙ c.if-block_ok.true)

pub returns-else-block_ok : goal.returns-else-block_ok
returns-else-block_ok c =
    c.if-block_ok.false
    ∙ bad-block c.args.image.now c.args.r c.requires.laid (sym (tested (goal.at.returns-else-block_ok c).Joined-r-gt-AS_BLOCK) ∙ c.if-block_ok.false)
