-- Serves contracts and proofs. Lookup, up and top, which find one block at most (S10.3).
use Rattle.std.specs.Prelude.{ℕ, List}
use Rattle.address.specs.Ranges.{Range}
use Rattle.forest.specs.Blocks.{Block}
use Rattle.forest.specs.Relations.{lookup, up, top}
use Rattle.scans.specs.declared.Around.{Around}
use Rattle.scans.specs.declared.Around.TheVariants.{Lookup, Up, Top}

abbrev pub around_in : Around → List Block → Range → List ℕ
around_in Lookup bs q = lookup bs q
around_in Up bs q = up bs q
around_in Top bs q = top bs q
