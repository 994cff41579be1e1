-- What stands before each prefix is written once; head, rows and foot one after another.
use mathlib.Core.Path.{sym}
use Prim.Native.Nat.{ℕ, ◌+◌, ◌≤◌}
use mathlib.Core.List.{List, []}
use native.Mathlib.Omega.{arith}
use lib.ListN.{length, length-append}
use lib.Seq.{length-take-le}
use Rattle.output.proofs.Writing.{written-front, rest-length, written_both}
use Rattle.formats.specs.Styles.{template_at}
use Rattle.filters.specs.declared.Listed.{Listed}
use Rattle.filters.specs.Listed.{rows_in, entries_text}
use Rattle.filters.proofs.Listed.put_entries.Goals as goal
use Rattle.filters.proofs.Listed.put_entries.Goals.{After-put_rows-at}

fits :
    (l : Listed) (name : List ℕ) {n : ℕ} → length (entries_text l name) ≤ n →
    length (template_at l.style name).head + (length (rows_in l (template_at l.style name).before) + length (template_at l.style []).foot) ≤ n
fits l name h =
    let e = simp length-append at h in
    omega arith

pub put_head-at-requires : goal.put_head-at-requires
put_head-at-requires c =
    omega (arith, fits c.args.self.now c.args.name.now c.requires.1)

pub slice_bounds-put_rows-end : goal.slice_bounds-put_rows-end
slice_bounds-put_rows-end c =
    sym (length-take-le _ _ (omega (arith, c.requires.0, c.put_before-n.ensures.size)))

pub slice_bounds-put_rows-count : goal.slice_bounds-put_rows-count
slice_bounds-put_rows-count c = omega (arith, fits c.args.self.now c.args.name.now c.requires.1)

pub slice_bounds-put_rows-start : goal.slice_bounds-put_rows-start
slice_bounds-put_rows-start c = omega (arith, fits c.args.self.now c.args.name.now c.requires.1)

pub put_rows-at-requires : goal.put_rows-at-requires
put_rows-at-requires c =
    let e = written-front c.put_before-n.ensures in
    rw (e, rest-length) (omega (arith, fits c.args.self.now c.args.name.now c.requires.1))

-- after the rows
room : (c : After-put_rows-at) → c.put_head-at.result + c.put_rows-at.result + length (template_at c.args.self.now.style []).foot ≤ length c.args.out.now
room c =
    let r = rw (written-front c.put_before-n.ensures) at c.put_rows-at.ensures in
    omega (arith, fits c.args.self.now c.args.name.now c.requires.1, c.put_head-at.ensures.size, r.size)

pub overflow_add-at : goal.overflow_add-at
overflow_add-at c = omega (arith, room (goal.at.overflow_add-at c).After-put_rows-at)

pub slice_bounds-put_foot-count : goal.slice_bounds-put_foot-count
slice_bounds-put_foot-count c = omega (arith, room (goal.at.slice_bounds-put_foot-count c).After-put_rows-at)

pub slice_bounds-put_foot-start : goal.slice_bounds-put_foot-start
slice_bounds-put_foot-start c = omega (arith, room (goal.at.slice_bounds-put_foot-start c).After-put_rows-at)

pub put_foot-requires : goal.put_foot-requires
put_foot-requires c = rw rest-length (omega (arith, room (goal.at.put_foot-requires c).After-put_rows-at))

pub overflow_add-result : goal.overflow_add-result
overflow_add-result c = omega (arith, room (goal.at.overflow_add-result c).After-put_rows-at)

pub returns : goal.returns
returns c =
    let e = written-front c.put_before-n.ensures in
    written_both (written_both c.put_head-at.ensures (rw e at c.put_rows-at.ensures)) c.put_foot.ensures
