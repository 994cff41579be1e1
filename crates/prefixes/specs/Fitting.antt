-- Serves contracts and proofs. Whether entries fit in a buffer, as the code tells it.
use Rattle.std.specs.Prelude.{ℕ, cond, List, ltb, length, Result, Ok, Err}
use Rattle.output.specs.declared.WriteError.{WriteError}
use Rattle.output.specs.declared.WriteError.TheVariants.{NoRoom}
use Rattle.cidr.specs.Prefixes.{Prefix}
use Rattle.prefix_bytes.specs.Entry.{entries_of}

-- whether so much room is enough for the entries; if it is not, how many there are
abbrev pub fit_of : ℕ → ℕ → List Prefix → Result (Unit {0}) WriteError
fit_of width room ps = cond (ltb room (length (entries_of width ps))) (Err (NoRoom (length ps))) (Ok (tt {0}))
