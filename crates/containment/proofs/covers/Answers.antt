-- `containment::covers` meets its contract, by two comparisons.
use borrow.Author.Tests.{not-true, not-false}
use Rattle.containment.proofs.Cover.{covers-no, covers-yes}
use borrow.Author.Rules.{rules}
use Rattle.containment.proofs.covers.Goals as goal

pub returns-then-not-at_least_at : goal.returns-then-not-at_least_at
returns-then-not-at_least_at c = covers-no _ _ c.at_least_at.ensures (c.if-not-at_least_at.true)

pub returns : goal.returns
returns c = covers-yes _ _ c.at_least_at.ensures (c.if-not-at_least_at.false) c.at_most_at.ensures
