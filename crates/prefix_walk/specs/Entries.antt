-- Serves contracts and proofs. The entries of prefixes, as the code writes them.
use Rattle.std.specs.Prelude.{ℕ, ◌+◌, ◌-◌, ◌*◌, ◌^◌, ◌%◌, ◌≤◌, ◌<◌, ◌≡◌, List, length}
use Rattle.octets.specs.Positions.{Wide}
use Rattle.output.specs.Writing.{over, Reached}
use Rattle.cidr.specs.First.{Capped}
use Rattle.next_prefix.specs.Walked.{walked}
use Rattle.cidr.specs.Prefixes.{Prefix, from-to, prefixes_of}
use Rattle.prefix_bytes.specs.Entry.{entries_of}
use Rattle.prefix_walk.specs.declared.Stop.{Stop}

-- two addresses of so many bytes, in order
pub record Ordered (width : ℕ) (first last : ℕ) : Type 0 where
  pub wide : Wide width
  pub forward : first ≤ last
  pub below : last < 2 ^ (8 * width)

-- all entries are written, and so many they are
pub record Listed (width : ℕ) (ps : List Prefix) (before after : List ℕ) (n : ℕ) : Type 0 where
  pub counted : n ≡ length ps
  pub is : after ≡ over (entries_of width ps) before

-- the first entries are written, n of them in at bytes, and the others are left
pub record Entered (width : ℕ) (all rest : List Prefix) (before after : List ℕ) (at n : ℕ) : Type 0 where
  pub counted : n + length rest ≡ length all
  pub reached : Reached (entries_of width all) (entries_of width rest) before after at

-- the entries left are those for which what remains decides
pub record Climbed (width : ℕ) (first last : ℕ) (before after : List ℕ) (r : Stop) : Type 0 where
  pub entered : Entered width (walked first last) (walked r.start last) before after r.at r.n
  pub forward : r.start ≤ last
  pub capped : Capped (from-to r.start last)

-- the prefixes of so many addresses from first on
abbrev pub fallen : ℕ → ℕ → List Prefix
fallen first number = prefixes_of 128 (from-to first (first + number - 1))

-- fewer addresses from first on than a block that its zero bits allow, and first is not 0
pub record Falling (width : ℕ) (first number : ℕ) : Type 0 where
  pub wide : Wide width
  pub positive : 0 < first
  pub below : first + number ≤ 2 ^ (8 * width)
  pub bits : ℕ
  pub zeros : first % 2 ^ bits ≡ 0
  pub few : number < 2 ^ bits
