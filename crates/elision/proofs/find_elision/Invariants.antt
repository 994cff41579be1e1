-- `find_elision` is `elision`: where "::" stands in s is i further than where it stands in the rest from i on.
use Prim.Native.Nat.{◌+◌}
use mathlib.Core.Path.{◌≡◌}
use lib.ListN.{drop}
use Rattle.elision.specs.Elision.{elision}
use Rattle.elision.proofs.find_elision.Given as goal

abbrev pub invariant-loop-i : goal.invariant-loop-i
invariant-loop-i l = elision l.s ≡ l.i + elision (drop l.i l.s)
