-- What is found among the blocks of a family for a range (S10.3): by a lookup, or by a relation.
use Rattle.std.specs.Prelude.{ℕ, List}
use Rattle.registry.specs.declared.Relation.TheVariants.{Up, Down, Top, Bottom}
use Rattle.address.specs.Ranges.{Range}
use Rattle.forest.specs.Blocks.{Block}
use Rattle.forest.specs.Relations.{lookup, up, top, down, bottom}
use Rattle.relations.specs.declared.Finding.{Finding}
use Rattle.relations.specs.declared.Finding.TheVariants.{Lookup, Relation}
use Rattle.relations.specs.declared.Inside.{Inside}

unfoldable pub found_in : Finding → List Block → Range → List ℕ
found_in Lookup bs q = lookup bs q
found_in (Relation Up) bs q = up bs q
found_in (Relation Down) bs q = down bs q
found_in (Relation Top) bs q = top bs q
found_in (Relation Bottom) bs q = bottom bs q

-- down and bottom, which may find many
abbrev pub inside_of : Inside → List Block → Range → List ℕ
inside_of Inside.Down bs q = down bs q
inside_of Inside.Bottom bs q = bottom bs q
