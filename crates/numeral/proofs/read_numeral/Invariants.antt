-- `read_numeral` is `numeral`: the number read so far, continued by the rest of s, is what s stands for. It never passes max, so no sum wraps.
use Prim.Native.Nat.{◌≤◌}
use mathlib.Core.Path.{◌≡◌}
use lib.ListN.{drop}
use Rattle.numeral.specs.Numeral.{numeral, numeral_from}
use Rattle.numeral.proofs.read_numeral.Given as goal

abbrev pub invariant-loop-c : goal.invariant-loop-c
invariant-loop-c l = (l.v ≤ l.max) × (numeral_from l.base l.max l.v (drop l.c-index l.s) ≡ numeral l.base l.max l.s)
