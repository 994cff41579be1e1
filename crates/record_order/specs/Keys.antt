-- Serves contracts and proofs. What a record is sorted by, by its layout.
use Rattle.std.specs.Prelude.{cond, eqb}
use Rattle.registry.specs.Tags.{entity}
use Rattle.records.specs.declared.Span.{Span}
use Rattle.records.specs.declared.Layout.{Layout}
use Rattle.records.specs.Layout.{parts_of}

-- where the bytes are by which a record that is no block is sorted
abbrev pub key_span : Layout → Span
key_span l = cond (eqb l.tag entity) (parts_of l).handle (parts_of l).name
