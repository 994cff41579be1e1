-- Serves contracts and proofs. How two texts sort (S4.6), as one value.
use Rattle.std.specs.Prelude.{cond, List, ℕ}
use Rattle.std.specs.declared.cmp.Ordering.{Ordering}
use Rattle.std.specs.declared.cmp.Ordering.TheVariants.{Less, Equal, Greater}
use Rattle.octets.specs.Number.{at_most}

unfoldable pub compared : List ℕ → List ℕ → Ordering
compared a b = cond (at_most a b) (cond (at_most b a) Equal Less) Greater
