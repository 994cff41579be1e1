-- The item of each turn is the next path of the text.
use Rattle.std.proofs.Common.{rules, tests, arith, ◌≡◌, ℕ, ◌+◌, ◌≤◌, List, ◌∷◌, length, drop, drop_of_length-le, refl}
use Rattle.std.proofs.lemmas.List.{length_push}
use Rattle.std.proofs.lemmas.Iterator.Consumers.{YieldsList-turn, YieldsList-end}
use Rattle.std.proofs.lemmas.Iterator.Splits.{YieldsList-from_slice_split}
use lib.Dec.{eqb}
use Rattle.image.specs.Image.{image_of}
use Rattle.batches.specs.Batch.{paths_of}
use Rattle.batch_paths.proofs.Splitting.{paths_split, left-begins}
use Rattle.batch_paths.proofs.Answering.{line_in_rest, nothing_yet, all-answered, none-fits, path-left, one_more}
use Rattle.batch_paths.proofs.answer_paths.Goals as goal
use Rattle.batch_paths.proofs.answer_paths.Goals.{In-Some}

pub loop-path-init : goal.loop-path-init
loop-path-init c = nothing_yet (image_of c.args.image.bytes.now) (paths_of c.args.text.now) c.args.list.now

pub returns-then-list-at-lt4 : goal.returns-then-list-at-lt4
returns-then-list-at-lt4 c = none-fits c.loop-path.invariant c.if-list-at-lt4.true

-- what is left begins with the path of this turn
begins : (c : In-Some) → let n = length c.loop-path.yielded in let paths = paths_of c.args.text.now in
    drop n paths ≡ c.in-Some.path.now ∷ drop (n + 1) paths
begins c =
    let given = YieldsList-from_slice_split _ (λ (b : ℕ). eqb b 10) c.args.text.now (cc) (cc) (cc) (λ x r q k. search (rules, tests)) in
    let turn = YieldsList-turn given c.loop-path.yielded _ c.loop-path.yielded_by _ _ c.in-Some.path c.in-Some.is c.next.ensures.steps in
    left-begins (paths_of c.args.text.now) c.in-Some.path.now (length c.loop-path.yielded) (rw paths_split turn)

pub overflow_add-answered : goal.overflow_add-answered
overflow_add-answered c =
    omega (arith, path-left c.loop-path.invariant (begins (goal.at.overflow_add-answered c).In-Some) c.if-list-at-lt4.false, c.requires)

pub loop-path-preserved : goal.loop-path-preserved
loop-path-preserved c =
    let l = line_in_rest _ (image_of c.args.image.bytes.now) c.loop-path.list _ c.loop-path.at _ c.answer_path-at.ensures in
    rw (length_push c.loop-path.yielded c.in-Some.path) (one_more c.loop-path.invariant (begins (goal.at.loop-path-preserved c).In-Some) c.if-list-at-lt4.false l)

pub returns : goal.returns
returns c =
    let given = YieldsList-from_slice_split _ (λ (b : ℕ). eqb b 10) c.args.text.now (cc) (cc) (cc) (λ x r q k. search (rules, tests)) in
    let end = YieldsList-end given c.loop-path.yielded _ c.loop-path.yielded_by _ _ c.in-None.is c.next.ensures.steps in
    let most : length (paths_of c.args.text.now) ≤ length c.loop-path.yielded = rw (paths_split c.args.text.now, ← end.1) (omega arith) in
    all-answered c.loop-path.invariant (drop_of_length-le (paths_of c.args.text.now) most)
