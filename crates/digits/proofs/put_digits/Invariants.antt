-- The digits of what is left of the number, before what stands behind i in the buffer, are the whole.
use Prim.Native.Nat.{suc, ◌<◌}
use mathlib.Core.Path.{◌≡◌}
use mathlib.Core.List.{◌++◌}
use lib.ListN.{length, drop}
use Rattle.numeral.specs.Digits.{numeral_text}
use Rattle.digits.proofs.put_digits.Given as goal

abbrev pub invariant-loop-v : goal.invariant-loop-v
invariant-loop-v g l = (l.count ≡ length (numeral_text g.row.BASE l.n)) × (l.i < length l.text) × (length l.text ≡ length l.initial.text) × (length (numeral_text g.row.BASE l.v) ≡ suc l.i)
    × (numeral_text g.row.BASE l.v ++ drop (suc l.i) l.text ≡ numeral_text g.row.BASE l.n ++ drop l.count l.initial.text)

abbrev pub decreases-loop-v : goal.decreases-loop-v
decreases-loop-v g l = l.v
