-- The part from start up to end of the span has the text that the span promises, and starts where the span does.
use mathlib.Core.Path.{refl, ◌∙◌, ap}
use native.Mathlib.Omega.{arith}
use Rattle.fields.specs.Slices.{part_slice}
use Rattle.records.specs.declared.Span.{Span}
use Rattle.entries.proofs.part.Goals as goal

pub returns : goal.returns
returns c =
    let span = c.part_span-span.ensures in
    record {
      same = part_slice _ _ _ span.inside.forward ∙ span.bytes;
      memory = refl;
      offset = omega (arith, ap (λ (x : Span). x.start) span.same);
    }
