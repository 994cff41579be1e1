-- Serves contracts and proofs. The prefixes of a range of two addresses.
use Rattle.std.specs.Prelude.{ℕ, List}
use Rattle.cidr.specs.Prefixes.{Prefix, from-to, prefixes_of}

-- Every range of addresses has the same prefixes at 128 bits as at its own width: the code counts and writes at 128.
abbrev pub walked : ℕ → ℕ → List Prefix
walked first last = prefixes_of 128 (from-to first last)
