-- What the reader over the image up to the end finds n fields on is turned into its span, by cases as in the definition.
use mathlib.Core.Path.{◌∙◌, ap, sym}
use lib.Seq.{length-take-le}
use Rattle.fields.proofs.Fields.{front-after}
use Rattle.records.specs.Positions.{span_from}
use Rattle.records.proofs.Layouts.{no-span}
use Rattle.records.proofs.inner_span.Goals as goal

pub slice_bounds-enclosing-end : goal.slice_bounds-enclosing-end
slice_bounds-enclosing-end c = sym (length-take-le _ _ c.requires)

pub returns-in-Some : goal.returns-in-Some
returns-in-Some c = ap span_from (sym c.in-Some.is ∙ c.field_after.ensures ∙ front-after _ _ _ _ c.requires)

pub returns-in-None : goal.returns-in-None
returns-in-None c =
    no-span c.default.ensures ∙ ap span_from (sym c.in-None.is ∙ c.field_after.ensures ∙ front-after _ _ _ _ c.requires)
