use Prim.Native.Nat.{◌+◌, ◌-◌, ◌*◌, ◌<◌}
use mathlib.Core.Path.{◌≡◌, sym, ap, ◌∙◌}
use mathlib.Core.List.{◌++◌}
use native.Mathlib.Omega.{arith}
use lib.ListN.{length, take, get_or}
use lib.Seq.{length-take-le}
use Rattle.output.proofs.Writing.{Parted, at-start, rest-length, rest-fits, part-fits, next-part, at-end}
use Rattle.filters.specs.Rows.{row_text, entry_rows}
use Rattle.filters.specs.Listed.{rows_in}
use Rattle.filters.proofs.Rows.{no_rows, row_next, none-left, some-left}
use Rattle.filters.proofs.Listed.put_rows.Goals as goal
use Rattle.filters.proofs.Listed.put_rows.Goals.{In-Some}

pub loop-entry-init : goal.loop-entry-init
loop-entry-init c =
    let i = c.into_iter-entry-iterator.ensures.into_iter_gives in
    let e = c.chunks_exact-entry-items.ensures in
    let s = c.args.self.now in
    rw (i, e.rest) (e.size, s.counted, at-start (rows_in s c.args.before.now) c.args.out.now)

-- the entry is whole, and it is one of those that are left
whole : (c : In-Some) → length c.in-Some.entry.now ≡ c.args.self.now.width + 1
whole c = omega (arith, c.in-Some.ensures.steps.1.1, c.loop-entry.invariant.0)

left-length : (c : In-Some) → length (c.in-Some.entry.now ++ c.next.new.self.rest.now) ≡ c.loop-entry.left * (c.args.self.now.width + 1)
left-length c = ap length (sym c.in-Some.ensures.steps.1.0) ∙ c.loop-entry.invariant.1

others : (c : In-Some) → let l = c.loop-entry in (0 < l.left) × (length c.next.new.self.rest.now ≡ (l.left - 1) * (c.args.self.now.width + 1))
others c = some-left c.args.self.now.width c.in-Some.entry.now c.next.new.self.rest.now c.loop-entry.left (whole c) (left-length c)

parted : (c : In-Some) → let l = c.loop-entry in let s = c.args.self.now in let b = c.args.before.now in
    Parted (entry_rows s.style b s.width l.left l.entry-iterator.rest.now)
    (row_text s.style b (take s.width c.in-Some.entry.now) (get_or c.in-Some.entry.now s.width 0) (l.left - 1))
    (entry_rows s.style b s.width (l.left - 1) c.next.new.self.rest.now)
parted c =
    let s = c.args.self.now in
    rw c.in-Some.ensures.steps.1.0 (row_next s.style c.args.before.now s.width c.in-Some.entry.now c.next.new.self.rest.now c.loop-entry.left (whole c) (others c).0)

pub overflow_sub-left : goal.overflow_sub-left
overflow_sub-left c = omega (arith, (others c).0)

pub slice_bounds-put_row-end : goal.slice_bounds-put_row-end
slice_bounds-put_row-end c = sym (length-take-le _ _ (omega (arith, whole (goal.at.slice_bounds-put_row-end c).In-Some)))

pub slice_bounds-put_row-count : goal.slice_bounds-put_row-count
slice_bounds-put_row-count c = omega (arith, rest-fits c.loop-entry.invariant.2 c.requires)

pub slice_bounds-put_row-start : goal.slice_bounds-put_row-start
slice_bounds-put_row-start c = omega (arith, rest-fits c.loop-entry.invariant.2 c.requires)

pub put_row-at-requires : goal.put_row-at-requires
put_row-at-requires c =
    let i = (goal.at.put_row-at-requires c).In-Some in
    let s = c.args.self.now in
    (rw (length-take-le s.width c.in-Some.entry.now (omega (arith, whole i))) s.wide, rw rest-length (omega (arith, part-fits c.loop-entry.invariant.2 c.requires (parted i))))

pub loop-entry-preserved : goal.loop-entry-preserved
loop-entry-preserved c =
    let i = (goal.at.loop-entry-preserved c).In-Some in
    (c.in-Some.ensures.steps.0 ∙ c.loop-entry.invariant.0, (others i).1, next-part c.loop-entry.invariant.2 (parted i) c.put_row-at.ensures)

pub returns : goal.returns
returns c =
    let l = c.loop-entry in
    let s = c.args.self.now in
    let e : l.left ≡ 0 = none-left s.width l.left l.invariant.1 (omega (arith, c.in-None.ensures.steps.1.0, l.invariant.0)) in
    at-end (rw (e, no_rows s.style c.args.before.now s.width l.entry-iterator.rest.now) at l.invariant.2)
