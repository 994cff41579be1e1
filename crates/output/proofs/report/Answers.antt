-- Where there are fewer places nothing is written; else the hits, then what the list held behind them.
use mathlib.Core.Path.{ap}
use mathlib.Core.List.{List, ◌++◌}
use Prim.Native.Nat.{ℕ}
use native.Mathlib.Omega.{arith}
use lib.ListN.{length, drop}
use Rattle.output.proofs.Replies.{full-reply, done-reply}
use Rattle.output.proofs.report.Goals as goal

pub returns-then-list-count : goal.returns-then-list-count
returns-then-list-count c = full-reply c.args.hits.now c.args.list.now (omega arith)

pub returns : goal.returns
returns c =
    let a = c.args in
    done-reply a.hits.now a.list.now (omega arith) (ap (λ (s : List ℕ). s ++ drop (length a.hits.now) a.list.now) c.copy_from_slice.ensures.after)
