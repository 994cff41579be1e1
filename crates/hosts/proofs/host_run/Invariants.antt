-- `host_run`: the pairs so far are good exactly if the run of i places is; a step is one pair more.
use mathlib.Core.Path.{◌≡◌}
use Rattle.texts.specs.Run.{run}
use Rattle.hosts.specs.Pairs.{follow_at}
use Rattle.hosts.proofs.host_run.Given as goal

abbrev pub invariant-loop-i : goal.invariant-loop-i
invariant-loop-i l = l.good ≡ run (follow_at l.s) l.at l.i
