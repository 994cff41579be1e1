-- Records one after another: which may follow, and which overlap without lying inside (defects 6 and 7); where handle and name are.
use Rattle.std.specs.Prelude.{ℕ, ◌≡◌, refl, Bool, true, false, List, [], ◌∷◌, map}
use Rattle.records.specs.Record.{Record, follows, crosses_block}
use Rattle.records.specs.Positions.{handle_span, name_span}
use Rattle.records.specs.Computing.{computing}

-- a block of numbers below 256
abbrev pub block : ℕ → ℕ → ℕ → Record
block tag first last =
    record { tag = tag; range = 0 ∷ 0 ∷ 0 ∷ first ∷ 0 ∷ 0 ∷ 0 ∷ last ∷ []; handle = 0x41 ∷ []; name = 0x42 ∷ []; status = 1 ∷ [] }

abbrev pub entity : List ℕ → Record
entity handle = record { tag = 0x15; range = []; handle = handle; name = 0x42 ∷ []; status = [] }

-- an earlier record, a later one, whether it may follow and whether it crosses
pub record Case : Type 0 where
  pub earlier : Record
  pub later : Record
  pub follows : Bool
  pub crosses : Bool

abbrev pub pair : Record → Record → Bool → Bool → Case
pair earlier later f c = record { earlier = earlier; later = later; follows = f; crosses = c }

abbrev pub cases : List Case
cases =
    -- first ascending, then last descending
    pair (block 0x12 10 20) (block 0x12 21 30) true false ∷ pair (block 0x12 10 20) (block 0x12 10 15) true false
    ∷ pair (block 0x12 10 20) (block 0x12 10 20) false false ∷ pair (block 0x12 10 20) (block 0x12 10 25) false true ∷ pair (block 0x12 10 20) (block 0x12 9 30) false true
    -- inside, and over the end
    ∷ pair (block 0x12 10 20) (block 0x12 11 20) true false ∷ pair (block 0x12 10 20) (block 0x12 20 21) true true
    -- tags ascend; blocks of other tags do not overlap
    ∷ pair (block 0x10 10 20) (block 0x12 20 21) true false ∷ pair (block 0x12 10 20) (block 0x10 20 21) false false
    -- handles sort by bytes, a proper prefix first
    ∷ pair (entity (0x41 ∷ [])) (entity (0x41 ∷ 0x41 ∷ [])) true false ∷ pair (entity (0x41 ∷ 0x41 ∷ [])) (entity (0x41 ∷ [])) false false
    ∷ pair (entity (0x41 ∷ [])) (entity (0x41 ∷ [])) false false ∷ pair (entity (0x42 ∷ [])) (entity (0x61 ∷ [])) true false ∷ []

pub follows_hold : map (λ (c : Case). follows c.earlier c.later) cases ≡ map (λ (c : Case). c.follows) cases
unfolding computing
follows_hold = refl

pub crosses_hold : map (λ (c : Case). crosses_block c.earlier c.later) cases ≡ map (λ (c : Case). c.crosses) cases
unfolding computing
crosses_hold = refl

-- Fields 21 and 22 of an entity, and one byte more. A reader that is to end at 8 finds no name, though the bytes go on.
abbrev pub fields : List ℕ
fields = 0x21 ∷ 0 ∷ 1 ∷ 0x41 ∷ 0x22 ∷ 0 ∷ 2 ∷ 0x42 ∷ 0x43 ∷ 0 ∷ []

spans_hold :
    handle_span fields 0x15 0 9 ∷ name_span fields 0x15 0 9 ∷ name_span fields 0x15 0 8 ∷ []
    ≡ record { start = 3; end = 4 } ∷ record { start = 7; end = 9 } ∷ record { start = 0; end = 0 } ∷ []
unfolding computing
spans_hold = refl
