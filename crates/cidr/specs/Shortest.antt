-- What is shown of the prefixes of a range, at every width (S14.7).
use Rattle.std.specs.Prelude.{ℕ, ◌+◌, ◌-◌, ◌*◌, ◌^◌, ◌%◌, ◌≤◌, ◌<◌, ◌≡◌, List, [], ◌∷◌, length}
use Rattle.octets.specs.Lists.{◌∈◌, any}
use Rattle.address.specs.Ranges.{Range, single, covers}
use Rattle.cidr.specs.Prefixes.{Prefix, from-to, addresses, prefixes_of}

-- a prefix of addresses of w bits: the bits after its length are zero
pub record IsPrefix (w : ℕ) (p : Prefix) : Type 0 where
  pub short : p.free ≤ w
  pub zeros : p.first % 2 ^ p.free ≡ 0
  pub address : p.first < 2 ^ w

-- together the prefixes hold exactly the addresses of the range
abbrev pub Exact : List Prefix → Range → Type 0
Exact ps r = (x : ℕ) → any (λ (p : Prefix). covers (addresses p) (single x)) ps ≡ covers r (single x)

-- the first prefix starts at n or after it, and each other one after the end of the one before it
abbrev pub Ascending : ℕ → List Prefix → Type 0
Ascending n [] = Unit {0}
Ascending n (p ∷ ps) = (n ≤ p.first) × Ascending (p.first + 2 ^ p.free) ps

-- The shortest list of prefixes of w bits that holds exactly the range.
pub record Shortest (w : ℕ) (r : Range) (ps : List Prefix) : Type 0 where
  pub prefixes : (p : Prefix) → p ∈ ps → IsPrefix w p
  pub ascending : Ascending 0 ps
  pub exact : Exact ps r
  pub shortest : (qs : List Prefix) → ((q : Prefix) → q ∈ qs → IsPrefix w q) → Exact qs r → length ps ≤ length qs
  -- hence at most 62 for IPv4 and 254 for IPv6
  pub few : 2 ≤ w → length ps ≤ 2 * w - 2

-- The prefixes of a range of addresses of w bits are that list. Proved in proofs/Theorem.antt.
abbrev pub PrefixesShortest : Type 0
PrefixesShortest = (w : ℕ) (r : Range) → r.last < 2 ^ w → Shortest w r (prefixes_of w r)

-- All addresses but the first and the last need as many. Proved in proofs/Reached.antt.
abbrev pub BoundReached : Type 0
BoundReached = (w : ℕ) → 1 ≤ w → length (prefixes_of w (from-to 1 (2 ^ w - 2))) ≡ 2 * w - 2
