-- By the tag: the range, the handle or the name (Keyed.antt).
use mathlib.Core.Path.{◌∙◌}
use Prim.Native.Nat.{◌+◌, ◌*◌}
use native.Mathlib.Omega.{arith}
use Rattle.fields.specs.Slices.{part_slice}
use Rattle.merged.proofs.Known.{known, range-room}
use Rattle.by_key.proofs.Keyed.{block_read, handle-inside, handle-read, name-inside, name-read}
use Rattle.by_key.proofs.key_of.Goals as goal

pub bounds-r-0 : goal.bounds-r-0
bounds-r-0 c = omega (arith, (known _ c.requires).long)

pub slice_bounds-result-end : goal.slice_bounds-result-end
slice_bounds-result-end c =
    let x = known _ c.requires in
    let e = c.width_of.ensures.0 in
    let l = rw (← x.tag_is) at (range-room _ c.requires) in
    omega (arith, e, l c.if-tag-le-AS_BLOCK.true)

pub returns-then-tag-le-AS_BLOCK : goal.returns-then-tag-le-AS_BLOCK
returns-then-tag-le-AS_BLOCK c =
    part_slice 6 (6 + 2 * c.width_of.result) c.args.r.now (omega arith) ∙ block_read _ c.requires _ c.width_of.ensures.0 c.if-tag-le-AS_BLOCK.true

pub bytes_of-requires : goal.bytes_of-requires
bytes_of-requires c = handle-inside _ c.requires _ c.handle_span.ensures

pub returns-then-tag-eq-ENTITY : goal.returns-then-tag-eq-ENTITY
returns-then-tag-eq-ENTITY c =
    c.bytes_of.ensures ∙ handle-read _ c.requires _ c.handle_span.ensures c.if-tag-eq-ENTITY.true

pub bytes_of-requires-2 : goal.bytes_of-requires-2
bytes_of-requires-2 c = name-inside _ c.requires _ c.name_span.ensures

pub returns : goal.returns
returns c =
    c.bytes_of-2.ensures
    ∙ name-read _ c.requires _ c.name_span.ensures c.if-tag-le-AS_BLOCK.false c.if-tag-eq-ENTITY.false
