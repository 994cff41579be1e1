-- The records so far stand one after another, up to the end of the last one (Stretches.antt).
use Prim.Native.Nat.{◌+◌, ◌<◌}
use lib.ListN.{length, get_or}
use Rattle.merged.specs.Held.{field_bytes}
use Rattle.merged.specs.Listed.{starts_in}
use Rattle.stretches.specs.Stretches.{Stretched}
use Rattle.stretches.proofs.stretch_from.Given as goal

abbrev pub invariant-loop-until : goal.invariant-loop-until
invariant-loop-until l =
    let m = l.records in
    (l.last < length m.image.now) × Stretched m.image.now m.changes.now (starts_in m) l.i (get_or m.starts l.i 0) (l.last + length (field_bytes m.image.now l.last)) l.until
