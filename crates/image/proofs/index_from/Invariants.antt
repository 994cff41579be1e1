-- The loop: after each record the rest of the image decides and the stack stands for the earlier blocks (Walked in Walk.antt), and the starts
-- are noted (Noted.antt).
use mathlib.Core.List.{[]}
use Prim.Native.Nat.{◌-◌}
use lib.ListN.{length, drop}
use Rattle.image.specs.Image.{image_from}
use Rattle.image.proofs.Walk.{Walked}
use Rattle.image.proofs.Noted.{Noted}
use Rattle.image.proofs.index_from.Given as goal

abbrev pub invariant-loop-p : goal.invariant-loop-p
invariant-loop-p l = Walked l.image (image_from 4096 [] (drop l.from l.image)) l.p l.stack l.depth l.count × Noted l.image l.from l.starts l.count l.p.end

abbrev pub decreases-loop-p : goal.decreases-loop-p
decreases-loop-p l = length l.image - l.p.end
