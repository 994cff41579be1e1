-- By the number of paths.
use mathlib.Core.List.{[]}
use native.Mathlib.Omega.{arith}
use Rattle.batches.specs.Batch.{paths_of}
use Rattle.batch.proofs.Paths.{many_paths, paths-answered}
use borrow.Author.Rules.{rules}
use Rattle.batch.proofs.answer.Goals as goal

pub returns-then-count_paths-gt-MOST_PATHS : goal.returns-then-count_paths-gt-MOST_PATHS
returns-then-count_paths-gt-MOST_PATHS c =
    let a = c.args in
    many_paths (paths_of a.text.now) a.image.bytes.now a.list.now _ (omega (arith, c.if-count_paths-gt-MOST_PATHS.true, c.count_paths.ensures))
    c.args.image.indexed.sound (c.reply.ensures [])

pub answer_paths-answered-requires : goal.answer_paths-answered-requires
answer_paths-answered-requires c = omega (arith, c.if-count_paths-gt-MOST_PATHS.false, c.count_paths.ensures)

pub returns : goal.returns
returns c =
    let a = c.args in
    paths-answered (paths_of a.text.now) a.image.bytes.now a.list.now _ (omega (arith, c.if-count_paths-gt-MOST_PATHS.false, c.count_paths.ensures))
    c.args.image.indexed.sound c.answer_paths-answered.ensures c.reply-2.ensures
