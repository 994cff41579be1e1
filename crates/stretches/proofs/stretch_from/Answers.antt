use borrow.Author.Rules.{rules}
use native.Mathlib.Omega.{arith}
use Prim.Native.Nat.{◌<◌}
use mathlib.Core.Path.{refl}
use lib.ListN.{length, get_or}
use Rattle.stretches.proofs.Stretches.{read-end, one, one_more}
use Rattle.stretches.proofs.stretch_from.Goals as goal

pub loop-until-init : goal.loop-until-init
loop-until-init c =
    let m = c.args.records.now in
    (c.requires.1, one m.image.now m.changes.now m.starts m.count (search rules) c.requires.2 c.args.i c.requires.0 c.requires.1)

pub loop-until-preserved : goal.loop-until-preserved
loop-until-preserved c =
    let m = c.args.records.now in
    let inside : get_or m.starts c.loop-until.until 0 < length m.image.now = omega (arith, c.if-records-next.false) in (
      inside,
      one_more m.image.now m.changes.now m.starts m.count (search rules) c.requires.2
          (read-end c.loop-until.last c.loop-until.invariant.1 c.field_bytes.ensures) c.loop-until-test.true _ refl c.if-next-end.false inside,
    )
