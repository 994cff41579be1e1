-- Each turn takes one line off what is left.
use Rattle.std.proofs.Common.{◌≤◌, length}
use Rattle.text_cases.proofs.run_lines.Given as goal

abbrev pub invariant-loop-rest : goal.invariant-loop-rest
invariant-loop-rest g l = length l.rest ≤ length l.s

abbrev pub decreases-loop-rest : goal.decreases-loop-rest
decreases-loop-rest g l = length l.rest
