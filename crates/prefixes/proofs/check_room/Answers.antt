-- By the bound on the number of prefixes, or by counting them.
use native.Mathlib.Omega.{arith}
use Rattle.prefix_bytes.proofs.Widths.{at-most-sixteen}
use Rattle.prefixes.proofs.Room.{room_fits, product_fits, ample, enough, too_short}
use Rattle.prefixes.proofs.check_room.Goals as goal

pub overflow_add-size : goal.overflow_add-size
overflow_add-size c = omega (arith, at-most-sixteen c.requires.wide)

pub overflow_mul-width : goal.overflow_mul-width
overflow_mul-width c = omega (arith, at-most-sixteen c.requires.wide)

pub overflow_mul-width-2 : goal.overflow_mul-width-2
overflow_mul-width-2 c = record { fits = room_fits c.requires.wide }

pub returns-then-width-size : goal.returns-then-width-size
returns-then-width-size c = ample c.requires c.if-width-size.true

pub overflow_mul-n : goal.overflow_mul-n
overflow_mul-n c = record { fits = product_fits c.requires c.count-n.ensures }

pub returns-then-n-size : goal.returns-then-n-size
returns-then-n-size c = enough c.requires c.count-n.ensures c.if-n-size.true

pub returns : goal.returns
returns c = too_short c.requires c.count-n.ensures c.if-n-size.false
