-- One after another.
use Prim.Native.Nat.{ℕ, ◌+◌, ◌≤◌}
use mathlib.Core.List.{List, []}
use native.Mathlib.Omega.{arith}
use lib.ListN.{length, length-append}
use Rattle.formats.specs.declared.Style.{Style}
use Rattle.formats.specs.Template.{end_of}
use Rattle.formats.specs.Styles.{template_at}
use Rattle.filters.specs.Rows.{slashed, row_text}
use Rattle.output.proofs.Writing.{rest-length, written_both}
use Rattle.filters.proofs.put_row.Goals as goal
use Rattle.filters.proofs.put_row.Goals.{After-put_prefix-at}

fits :
    (s : Style) (before address : List ℕ) (bits left : ℕ) {n : ℕ} → length (row_text s before address bits left) ≤ n →
    length before + (length (slashed (template_at s []).slash address bits) + length (end_of (template_at s []) left)) ≤ n
fits s before address bits left h =
    let h = simp length-append at h in
    simp length-append (omega arith)

pub put_bytes-at-requires : goal.put_bytes-at-requires
put_bytes-at-requires c = omega (arith, fits _ _ _ _ _ c.requires.1)

pub slice_bounds-put_prefix-count : goal.slice_bounds-put_prefix-count
slice_bounds-put_prefix-count c = omega (arith, fits _ _ _ _ _ c.requires.1)

pub slice_bounds-put_prefix-start : goal.slice_bounds-put_prefix-start
slice_bounds-put_prefix-start c = omega (arith, fits _ _ _ _ _ c.requires.1)

pub put_prefix-at-requires : goal.put_prefix-at-requires
put_prefix-at-requires c =
    (c.requires.0, rw rest-length (omega (arith, fits _ _ _ _ _ c.requires.1)))

-- after the prefix
room : (c : After-put_prefix-at) → let a = c.args in
    c.put_bytes-at.result + c.put_prefix-at.result + length (end_of (template_at a.style []) a.left) ≤ length a.out.now
room c = omega (arith, fits _ _ _ _ _ c.requires.1, c.put_bytes-at.ensures.size, c.put_prefix-at.ensures.size)

pub overflow_add-at : goal.overflow_add-at
overflow_add-at c = omega (arith, room (goal.at.overflow_add-at c).After-put_prefix-at)

pub slice_bounds-put_end-count : goal.slice_bounds-put_end-count
slice_bounds-put_end-count c = omega (arith, room (goal.at.slice_bounds-put_end-count c).After-put_prefix-at)

pub slice_bounds-put_end-start : goal.slice_bounds-put_end-start
slice_bounds-put_end-start c = omega (arith, room (goal.at.slice_bounds-put_end-start c).After-put_prefix-at)

pub put_end-requires : goal.put_end-requires
put_end-requires c = rw rest-length (omega (arith, room (goal.at.put_end-requires c).After-put_prefix-at))

pub overflow_add-result : goal.overflow_add-result
overflow_add-result c = omega (arith, room (goal.at.overflow_add-result c).After-put_prefix-at)

pub returns : goal.returns
returns c = written_both (written_both c.put_bytes-at.ensures c.put_prefix-at.ensures) c.put_end.ensures
