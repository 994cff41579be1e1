-- As for a block, with fields 21 and 22 alone.
use mathlib.Core.Path.{sym}
use Rattle.std.specs.Prelude.{None}
use Rattle.record_shape.specs.Shaped.{Shaped}
use Rattle.record_shape.proofs.Steps.{Stops, here, later, over, named_steps, named-shaped, named-refused}
use Rattle.record_shape.proofs.shape_of.Goals as goal
use Rattle.record_shape.proofs.shape_of.Goals.{Else-field-le-AS_BLOCK}

-- a record that is no block
refused : (c : Else-field-le-AS_BLOCK) → Stops c.args.image.now c.args.field.end c.args.field.start named_steps → Shaped c.args.image.now c.args.field.tag c.args.field.start c.args.field.end None
refused c = named-refused c.args.image.now c.args.field.tag c.args.field.start c.args.field.end c.requires.0 c.requires.1 c.if-field-le-AS_BLOCK.false

pub returns-in_err-middle : goal.returns-in_err-middle
returns-in_err-middle c =
    rw c.from_residual.ensures (refused (goal.at.returns-in_err-middle c).Else-field-le-AS_BLOCK (here (sym c.in_err-middle.ensures)))

pub returns-in_err-to : goal.returns-in_err-to
returns-in_err-to c =
    rw c.from_residual-in_err-to.ensures
    (refused (goal.at.returns-in_err-to c).Else-field-le-AS_BLOCK (later (sym c.in_ok-middle.ensures) (here (sym c.in_err-to.ensures))))

pub returns-then-to-field : goal.returns-then-to-field
returns-then-to-field c =
    refused (goal.at.returns-then-to-field c).Else-field-le-AS_BLOCK
    (later (sym c.in_ok-middle.ensures) (later (sym c.in_ok-to.ensures) (over c.if-to-field.true)))

pub returns : goal.returns
returns c =
    named-shaped c.args.image.now c.args.field.tag c.args.field.start c.args.field.end c.requires.0 c.requires.1 c.if-field-le-AS_BLOCK.false _ _
    (sym c.in_ok-middle.ensures) (sym c.in_ok-to.ensures) c.if-to-field.false
