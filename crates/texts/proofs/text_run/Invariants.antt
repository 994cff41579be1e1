-- `text_run`: whether all bytes so far are good.
use mathlib.Core.Path.{◌≡◌}
use lib.ListN.{take}
use Rattle.octets.specs.Lists.{every}
use Rattle.texts.specs.Texts.{text_byte}
use Rattle.texts.proofs.text_run.Given as goal

abbrev pub invariant-loop-b : goal.invariant-loop-b
invariant-loop-b l = l.good ≡ every (text_byte l.low) (take l.b-index l.s)
