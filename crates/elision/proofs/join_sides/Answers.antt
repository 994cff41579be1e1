-- `join_sides` puts zeros between the sides of "::", and refuses sides that leave no group to it.
use mathlib.Core.Path.{sym}
use Rattle.elision.proofs.Sides.{elided-long, sides-joined}
use Rattle.elision.proofs.join_sides.Goals as goal

pub returns-then-left-right-gt14 : goal.returns-then-left-right-gt14
returns-then-left-right-gt14 c = sym (elided-long _ _ c.if-left-right-gt14.true)

pub returns : goal.returns
returns c = rw (c.copy_from_slice.ensures.after, c.copy_from_slice-2.ensures.after) (sides-joined c.args.left.now c.args.right.now c.if-left-right-gt14.false)
