-- Ranges as prefixes (S2.6), at every width.
use Rattle.std.specs.Prelude.{ℕ, zero, suc, ◌+◌, ◌-◌, ◌^◌, cond, List, [], ◌∷◌, ◌++◌}
use Rattle.address.specs.Ranges.{Range, covers, overlaps}

-- A prefix: its first address, and how many bits after its length are free. Of w bits its length is w - free.
pub record Prefix : Type 0 where
  pub first : ℕ
  pub free : ℕ

abbrev pub prefix : (first free : ℕ) → Prefix
prefix first free = record { first = first; free = free }

abbrev pub from-to : ℕ → ℕ → Range
from-to first last = record { first = first; last = last }

-- the addresses that a prefix holds
unfoldable pub addresses : Prefix → Range
addresses p = from-to p.first (p.first + 2 ^ p.free - 1)

-- The prefixes of a range inside a block of 2 ^ free addresses: the block itself if it lies inside the range, nothing if it shares no
-- address with it, else those of its two halves.
unfoldable pub halved : Range → (free first : ℕ) → List Prefix
halved r zero first =
    let block : Prefix = prefix first 0 in
    cond (covers r (addresses block)) (block ∷ []) []
halved r (suc n) first =
    let block : Prefix = prefix first (suc n) in
    let halves : List Prefix = halved r n first ++ halved r n (first + 2 ^ n) in
    cond (covers r (addresses block)) (block ∷ []) (cond (overlaps r (addresses block)) halves [])

-- the prefixes of a range of addresses of w bits: those inside the block of all of them
unfoldable pub prefixes_of : ℕ → Range → List Prefix
prefixes_of w r = halved r w 0
