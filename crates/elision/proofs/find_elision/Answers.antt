use mathlib.Core.Path.{◌≡◌, sym, ◌∙◌}
use lib.ListN.{drop}
use Rattle.elision.specs.Elision.{elision_first}
use native.Mathlib.Omega.{arith}
use Rattle.octets.proofs.Pieces.{rest-is}
use Rattle.elision.proofs.Elisions.{starts-first, elision-here, elision_on, elision-end}
use Rattle.elision.proofs.find_elision.Goals as goal
use Rattle.elision.proofs.find_elision.Goals.{After-starts_with}

module _ (c : After-starts_with) where
  test : c.starts_with.result ≡ elision_first (drop c.loop-i.i c.args.s.now)
  test = starts-first _ _ (rw rest-is at c.starts_with.ensures.value)

pub loop-i-init : goal.loop-i-init
loop-i-init c = omega arith

pub returns-then-starts_with-clause-first : goal.returns-then-starts_with-clause-first
returns-then-starts_with-clause-first c = elision-here _ _ (omega arith) (sym (test (goal.at.returns-then-starts_with-clause-first c).After-starts_with) ∙ c.if-starts_with.true) c.loop-i.invariant

pub loop-i-preserved : goal.loop-i-preserved
loop-i-preserved c = elision_on _ _ (omega arith) (sym (test (goal.at.loop-i-preserved c).After-starts_with) ∙ c.if-starts_with.false) c.loop-i.invariant

pub returns-clause-first : goal.returns-clause-first
returns-clause-first c = elision-end _ _ (omega arith) c.loop-i.invariant
