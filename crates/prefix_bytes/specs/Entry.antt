-- The entry of a prefix in a list (S2.6).
use Rattle.std.specs.Prelude.{ℕ, zero, suc, ◌-◌, ◌*◌, ◌/◌, ◌%◌, ◌^◌, ◌<◌, ◌≡◌, List, [], ◌∷◌, ◌++◌}
use Rattle.octets.specs.Number.{value}
use Rattle.cidr.specs.Prefixes.{Prefix}

-- the n low bytes of a number, high byte first
unfoldable pub big_endian : ℕ → ℕ → List ℕ
big_endian zero v = []
big_endian (suc n) v = big_endian n (v / 256) ++ (v % 256 ∷ [])

-- An entry is the address in 4 or 16 bytes, then its length in one.
unfoldable pub entry_of : ℕ → Prefix → List ℕ
entry_of width p = big_endian width p.first ++ ((8 * width - p.free) ∷ [])

unfoldable pub entries_of : ℕ → List Prefix → List ℕ
entries_of width [] = []
entries_of width (p ∷ ps) = entry_of width p ++ entries_of width ps

-- The address of an entry is read back from its bytes. Proved in proofs/Bytes.antt.
abbrev pub BytesReadBack : Type 0
BytesReadBack = (n v : ℕ) → v < 256 ^ n → value (big_endian n v) ≡ v
