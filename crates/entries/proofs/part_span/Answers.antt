-- Each return is a law of Spans.antt: no record of the number, or what stands where it starts.
use native.Mathlib.Omega.{arith}
use Rattle.image.specs.Image.{image_of}
use Rattle.image.proofs.Soundness.{few-records, few_bytes}
use Rattle.records.proofs.Layouts.{no-span}
use Rattle.entries.proofs.Standing.{start-inside}
use Rattle.entries.proofs.Spans.{defective-none, span_none, span_beyond, span_some}
use Rattle.entries.proofs.part_span.Goals as goal

pub returns-in_default : goal.returns-in_default
returns-in_default c =
    let s = c.args.image.now in
    let none = defective-none (image_of s) _ _ c.index.ensures.verdict c.in_default.is in
    rw (no-span c.default.ensures) (span_none s c.args.number c.args.which (omega (arith, none)))

-- the starts are noted
pub returns-then-count-number : goal.returns-then-count-number
returns-then-count-number c =
    rw (no-span c.default-then-count-number.ensures) (span_beyond _ _ _ (c.index.ensures.indexed _ c.in-Ok.is).sound c.if-count-number.true)

pub bounds-starts-number : goal.bounds-starts-number
bounds-starts-number c = omega (arith, few-records _ _ ((c.index.ensures.indexed _ c.in-Ok.is)).sound, c.if-count-number.false)

pub overflow_cast-starts : goal.overflow_cast-starts
overflow_cast-starts c =
    let x = (c.index.ensures.indexed _ c.in-Ok.is) in
    omega (arith, start-inside _ _ _ x _ c.if-count-number.false, few_bytes _ _ x.sound)

pub returns : goal.returns
returns c =
    let x = c.index.ensures.indexed _ c.in-Ok.is in
    let h = c.if-count-number.false in
    span_some _ _ _ x.sound h _ (x.start _ h) _ c.contents_span.ensures
