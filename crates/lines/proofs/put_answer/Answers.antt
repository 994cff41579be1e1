-- The line of the reply, where every line has room.
use mathlib.Core.Path.{◌≡◌}
use lib.ListN.{length}
use native.Mathlib.Omega.{arith}
use Rattle.calls.specs.Calls.{answer_of}
use Rattle.answers.specs.Answered.{Answered}
use Rattle.calls.specs.Replies.{Consistent}
use Rattle.calls.proofs.Replies.{replies}
use Rattle.lines.proofs.Lines.{reported-few, reported_are, no_room_lem, line-put}
use borrow.Author.Rules.{rules}
use Rattle.lines.proofs.put_answer.Goals as goal
use Rattle.lines.proofs.put_answer.Goals.{After-answer-a}

-- the list has 4,096 places
answered : (c : After-answer-a)
    → Answered (answer_of c.args.path.now c.args.image.now 4096) c.answer-a.result c.args.list.now c.answer-a.new.list
answered c =
    let e : length c.args.list.now ≡ 4096 = search rules in
    rw e at c.answer-a.ensures

consistent : (c : After-answer-a) → Consistent 4096 (answer_of c.args.path.now c.args.image.now 4096)
consistent c = replies.first c.args.path.now c.args.image.now 4096

pub returns-then-out-lt-ROOM : goal.returns-then-out-lt-ROOM
returns-then-out-lt-ROOM c = no_room_lem (answered (goal.at.returns-then-out-lt-ROOM c).After-answer-a).list (omega arith)

pub put_line-requires : goal.put_line-requires
put_line-requires c =
    let few = reported-few (consistent (goal.at.put_line-requires c).After-answer-a) (answered (goal.at.put_line-requires c).After-answer-a) in
    let e = c.reports-n.ensures in
    (search rules, omega arith)

pub returns : goal.returns
returns c =
    let e = c.reports-n.ensures in
    line-put (omega arith) (answered (goal.at.returns c).After-answer-a).list (rw (e, reported_are (consistent (goal.at.returns c).After-answer-a) (answered (goal.at.returns c).After-answer-a)) at c.put_line.ensures)
