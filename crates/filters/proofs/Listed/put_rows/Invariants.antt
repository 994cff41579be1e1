-- What is written so far, followed by the rows of the entries that are left, is the whole.
use Prim.Native.Nat.{◌+◌, ◌*◌}
use mathlib.Core.Path.{◌≡◌}
use lib.ListN.{length}
use Rattle.std.specs.Slice.Iter.{chunks_exact_rest, chunks_exact_size}
use Rattle.output.specs.Writing.{Reached}
use Rattle.filters.specs.Rows.{entry_rows}
use Rattle.filters.specs.Listed.{rows_in}
use Rattle.filters.proofs.Listed.put_rows.Given as goal

abbrev pub invariant-loop-entry : goal.invariant-loop-entry
invariant-loop-entry l = (chunks_exact_size l.entry-iterator ≡ l.self.width + 1)
    × (length (chunks_exact_rest l.entry-iterator) ≡ l.left * (l.self.width + 1))
    × Reached (rows_in l.self l.before) (entry_rows l.self.style l.before l.self.width l.left (chunks_exact_rest l.entry-iterator)) l.initial.out l.out l.at
