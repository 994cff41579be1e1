-- After i turns the first i bytes of the name are written.
use mathlib.Core.Path.{◌≡◌}
use lib.ListN.{length, take}
use Rattle.output.specs.Writing.{Written}
use Rattle.formats.specs.Template.{name_in}
use Rattle.formats.proofs.put_name.Given as goal

abbrev pub invariant-loop-i : goal.invariant-loop-i
invariant-loop-i l = (length l.out ≡ length l.initial.out) × Written (take l.i (name_in l.format l.handle)) l.initial.out l.out l.i
