-- Readings that are wrong (S13.5), on four blocks: 0 holds 1, 1 holds 2, and 3 is the rest of 0.
use Rattle.std.specs.Prelude.{ℕ, ◌≡◌, refl, List, [], ◌∷◌}
use Rattle.address.specs.Ranges.{Range, strictly_inside}
use Rattle.forest.specs.Blocks.{Block}
use Rattle.forest.specs.Relations.{smallest, lookup, up, top, down, bottom}
use Rattle.forest.specs.Computing.{computing}

abbrev pub range : ℕ → ℕ → Range
range first last = record { first = first; last = last }

abbrev pub nested : List Block
nested =
    record { number = 0; range = range 0 255 } ∷ record { number = 1; range = range 0 127 } ∷ record { number = 2; range = range 0 15 }
    ∷ record { number = 3; range = range 128 255 } ∷ []

-- 1. Bottom as "blocks with none inside" leaves out 1, which holds addresses of its own.
pub bottom_of_all : bottom nested (range 0 255) ≡ 1 ∷ 2 ∷ 3 ∷ []
unfolding computing
bottom_of_all = refl

pub none-inside_of_all : smallest (λ r. strictly_inside r (range 0 255)) nested ≡ 2 ∷ 3 ∷ []
unfolding computing
none-inside_of_all = refl

-- 2. Lookup returns the block itself when it is registered, up doesn't.
pub lookup_of_registered : lookup nested (range 0 127) ≡ 1 ∷ []
unfolding computing
lookup_of_registered = refl

pub up_of_registered : up nested (range 0 127) ≡ 0 ∷ []
unfolding computing
up_of_registered = refl

-- Top is the largest strictly covering block, down has no block between.
pub top_of_inner : top nested (range 0 15) ≡ 0 ∷ []
unfolding computing
top_of_inner = refl

pub down_of_outer : down nested (range 0 255) ≡ 1 ∷ 3 ∷ []
unfolding computing
down_of_outer = refl
