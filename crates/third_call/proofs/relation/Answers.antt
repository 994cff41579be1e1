-- The record number names no record, no block, or a block, whose range is read where it stands in the image.
use mathlib.Core.List.{[]}
use native.Mathlib.Omega.{arith}
use Rattle.third_call.proofs.Third.{none-there, other-there, range-fits, asked, block-reported}
use Rattle.third_call.proofs.relation.Goals as goal

pub returns-then-image-record_number : goal.returns-then-image-record_number
returns-then-image-record_number c =
    none-there c.args.image.bytes.now _ c.args.record_number c.args.relation c.args.list.now
    c.args.image.indexed.sound (omega arith) (c.reply.ensures [])

pub bounds-image-at : goal.bounds-image-at
bounds-image-at c = omega (arith, c.start_of-at.ensures.inside)

pub returns-then-tag-gt-AS_BLOCK : goal.returns-then-tag-gt-AS_BLOCK
returns-then-tag-gt-AS_BLOCK c =
    other-there _ c.args.image.indexed.sound c.args.record_number (omega arith) c.start_of-at.ensures.is (omega arith) c.args.relation c.args.list.now (c.reply-then-tag-gt-AS_BLOCK.ensures [])

pub overflow_add-at : goal.overflow_add-at
overflow_add-at c = omega (arith, c.start_of-at.ensures.inside, c.start_of-at.ensures.fits)

pub range_at-range-requires : goal.range_at-range-requires
range_at-range-requires c =
    (c.width_of.ensures.1, range-fits _ c.args.image.indexed.sound c.args.record_number (omega arith) c.start_of-at.ensures.is (omega arith) c.width_of.ensures.0)

pub find-listed-requires : goal.find-listed-requires
find-listed-requires c =
    asked _ c.args.image.indexed.sound c.args.record_number (omega arith) c.start_of-at.ensures.is (omega arith) c.width_of.ensures.0 c.range_at-range.ensures

pub returns : goal.returns
returns c =
    block-reported _ c.args.image.indexed.sound c.args.record_number (omega arith) c.start_of-at.ensures.is (omega arith) c.width_of.ensures.0 c.range_at-range.ensures
    c.args.relation c.args.list.now (c.reported.ensures _ _ _ c.find-listed.ensures)
