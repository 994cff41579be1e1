-- `same`: what is left of both texts is alike exactly if they are.
use mathlib.Core.Path.{◌≡◌}
use lib.ListN.{drop}
use Rattle.texts.specs.Compare.{alike}
use Rattle.folding.proofs.same.Given as goal

abbrev pub invariant-loop-i : goal.invariant-loop-i
invariant-loop-i l = alike l.fold (drop l.i l.a) (drop l.i l.b) ≡ alike l.fold l.a l.b
