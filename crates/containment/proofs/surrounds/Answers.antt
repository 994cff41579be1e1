-- `containment::surrounds` meets its contract: covers, and where it is to be strictly, not the other way round.
use borrow.Author.Tests.{not-true, not-false}
use Rattle.containment.proofs.Cover.{covers-from, surrounds_no, surrounds_strictly, surrounds_yes}
use borrow.Author.Rules.{rules}
use Rattle.containment.proofs.surrounds.Goals as goal

pub returns-then-not-at_most_at : goal.returns-then-not-at_most_at
returns-then-not-at_most_at c = surrounds_no c.args.strict _ _ (covers-from _ _ c.requires.1 c.at_most_at.ensures) (c.if-not-at_most_at.true)

pub returns-then-strict : goal.returns-then-strict
returns-then-strict c = surrounds_strictly c.args.strict _ _ (covers-from _ _ c.requires.1 c.at_most_at.ensures) (c.if-not-at_most_at.false) c.if-strict.true c.inside.ensures

pub returns : goal.returns
returns c = surrounds_yes c.args.strict _ _ (covers-from _ _ c.requires.1 c.at_most_at.ensures) (c.if-not-at_most_at.false) c.if-strict.false
