-- A reader of the image up to `end` reads what ends there.
use mathlib.Core.Path.{sym, ap, ◌∙◌}
use lib.Seq.{length-take-le}
use Rattle.fields.specs.Positions.{end_between}
use Rattle.fields.proofs.Fields.{front_at}
use Rattle.record_shape.proofs.step.Goals as goal

pub slice_bounds-enclosing-end : goal.slice_bounds-enclosing-end
slice_bounds-enclosing-end c = sym (length-take-le _ _ c.requires)

pub returns : goal.returns
returns c = c.read_to.ensures ∙ ap (end_between c.args.low c.args.high c.args.tag) (front_at _ _ _ c.requires)
