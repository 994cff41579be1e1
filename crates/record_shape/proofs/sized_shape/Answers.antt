-- The steps that found their fields, one after another, are the fields of the record; a step that found none refutes every good record (Steps.antt).
use mathlib.Core.Path.{sym}
use mathlib.Core.List.{List}
use Prim.Native.Nat.{ℕ}
use native.Mathlib.Omega.{arith}
use Rattle.std.specs.Prelude.{None}
use Rattle.record_shape.specs.Shaped.{Shaped}
use Rattle.record_shape.proofs.Steps.{Stops, here, later, block_steps, reached, not_last, block-shaped, block_refused}
use Rattle.record_shape.proofs.sized_shape.Goals as goal
use Rattle.record_shape.proofs.sized_shape.Goals.{Start}

module _ (a : Start) where
  abbrev image : List ℕ
  image = a.args.image.now

  refused : Stops image a.args.field.end a.args.field.start (block_steps a.args.size) → Shaped image a.args.field.tag a.args.field.start a.args.field.end None
  refused = block_refused image a.args.field.tag a.args.field.start a.args.field.end a.requires.0 a.requires.1 a.requires.2 a.requires.3 a.args.size a.requires.4

pub returns-in_err-at : goal.returns-in_err-at
returns-in_err-at c = rw c.from_residual.ensures (refused (goal.at.returns-in_err-at c).Start (here (sym c.in_err-at.ensures)))

pub returns-in_err-middle : goal.returns-in_err-middle
returns-in_err-middle c =
    rw c.from_residual-in_err-middle.ensures
    (refused (goal.at.returns-in_err-middle c).Start (later (sym c.in_ok-at.ensures) (here (sym c.in_err-middle.ensures))))

pub returns-in_err-to : goal.returns-in_err-to
returns-in_err-to c =
    rw c.from_residual-in_err-to.ensures
    (refused (goal.at.returns-in_err-to c).Start (later (sym c.in_ok-at.ensures) (later (sym c.in_ok-middle.ensures) (here (sym c.in_err-to.ensures)))))

pub overflow_sub-field : goal.overflow_sub-field
overflow_sub-field c = (reached _ _ _ _ _ _ _ (sym c.in_ok-to.ensures)).0.within

pub returns-then-field-to-ne4 : goal.returns-then-field-to-ne4
returns-then-field-to-ne4 c =
    refused (goal.at.returns-then-field-to-ne4 c).Start
    (later (sym c.in_ok-at.ensures)
    (later (sym c.in_ok-middle.ensures)
    (later (sym c.in_ok-to.ensures)
    (not_last _ _ _ (reached _ _ _ _ _ _ _ (sym c.in_ok-to.ensures)).0.within c.if-field-to-ne4.true))))

pub returns-in_err-step : goal.returns-in_err-step
returns-in_err-step c =
    rw c.from_residual-in_err-step.ensures
    (refused (goal.at.returns-in_err-step c).Start
    (later (sym c.in_ok-at.ensures)
    (later (sym c.in_ok-middle.ensures)
    (later (sym c.in_ok-to.ensures)
    (here (sym c.in_err-step.ensures))))))

pub overflow_add-result : goal.overflow_add-result
overflow_add-result c =
    let r = reached _ _ _ _ _ _ _ (sym c.in_ok-middle.ensures) in
    omega (arith, r.0.forward, r.0.within)

pub returns : goal.returns
returns c =
    block-shaped c.args.image.now c.args.field.tag c.args.field.start c.args.field.end c.requires.0 c.requires.1 c.requires.2 c.requires.3 c.args.size c.requires.4 _ _ _ _
    (sym c.in_ok-at.ensures) (sym c.in_ok-middle.ensures) (sym c.in_ok-to.ensures) (sym c.in_ok-step.ensures) c.if-field-to-ne4.false
