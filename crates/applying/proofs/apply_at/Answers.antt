-- The change there, applied or refused (Applying.antt).
use mathlib.Core.Path.{refl}
use native.Mathlib.Omega.{arith}
use Rattle.applying.proofs.Applying.{none-read, passed, added-long}
use Rattle.applying.proofs.apply_at.Goals as goal

pub add-requires : goal.add-requires
add-requires c =
    let x = c.in_ok-start.ensures.read in
    let y = rw c.in-Add.is at x in
    (c.requires.0, c.requires.2, y.0.forward, y.0.within, c.requires.3, y.1)

pub remove-requires : goal.remove-requires
remove-requires c =
    let y = rw c.in-Remove.is at c.in_ok-start.ensures.read in
    (c.requires.0, y.1, y.0.within, y.2)

pub returns-in_err-start-clause-applied : goal.returns-in_err-start-clause-applied
returns-in_err-start-clause-applied c =
    rw c.from_residual.ensures (none-read c.args.records.now c.args.records.now c.args.at c.requires.1 (record { image = refl; changes = refl }) c.in_err-start.ensures.read)

pub returns-in-Add-clause-applied : goal.returns-in-Add-clause-applied
returns-in-Add-clause-applied c =
    let y = rw c.in-Add.is at c.in_ok-start.ensures.read in
    rw c.then_some.ensures (passed c.args.records.now _ c.args.at c.requires.1 y.0 _ c.add.ensures (added-long c.args.records.now c.args.at y.0 y.1))

pub returns-in-Remove-clause-applied : goal.returns-in-Remove-clause-applied
returns-in-Remove-clause-applied c =
    let y = rw c.in-Remove.is at c.in_ok-start.ensures.read in
    rw c.then_some-in-Remove.ensures (passed c.args.records.now _ c.args.at c.requires.1 y.0 _ c.remove.ensures (omega (arith, y.0.after, y.0.forward)))
