-- `containment::strictly_inside` meets its contract: inside, and not the other way round.
use borrow.Author.Tests.{not-true, not-false}
use Rattle.containment.proofs.Cover.{inside-no, inside-yes}
use borrow.Author.Rules.{rules}
use Rattle.containment.proofs.strictly_inside.Goals as goal

pub returns-then-not-inside : goal.returns-then-not-inside
returns-then-not-inside c = inside-no _ _ c.inside.ensures (c.if-not-inside.true)

pub returns : goal.returns
returns c = inside-yes _ _ c.inside.ensures (c.if-not-inside.false) c.covers.ensures
