-- The text of the record is compared, and the comparison counted.
use mathlib.Core.Path.{refl, ap, ◌∙◌}
use mathlib.Core.List.{List}
use Prim.Native.Nat.{ℕ}
use Rattle.octets.specs.Order.{compared}
use Rattle.by_name.proofs.compare_at.Goals as goal

pub returns : goal.returns
returns c =
    record { order = c.compare.ensures ∙ ap (λ (t : List ℕ). compared t c.args.wanted.now) c.text_at.ensures; counted = refl }
