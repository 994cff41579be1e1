-- One after another.
use Prim.Native.Nat.{◌+◌, ◌≤◌}
use mathlib.Core.List.{[]}
use native.Mathlib.Omega.{arith}
use lib.ListN.{length, length-append}
use Rattle.numeral.specs.Digits.{decimal_text}
use Rattle.formats.specs.Styles.{template_at}
use Rattle.output.proofs.Writing.{rest-length, written_both}
use Rattle.filters.proofs.put_prefix.Goals as goal
use Rattle.filters.proofs.put_prefix.Goals.{After-put_text-at}

room : (c : After-put_text-at) → let a = c.args in
    c.put_text-at.result + (length (template_at a.style []).slash + length (decimal_text a.bits)) ≤ length a.out.now
room c =
    let h = simp length-append at c.requires.1 in
    omega (arith, c.put_text-at.ensures.size)

pub put_text-at-requires : goal.put_text-at-requires
put_text-at-requires c =
    let h = simp length-append at c.requires.1 in
    (c.requires.0, omega arith)

pub slice_bounds-put_slash-count : goal.slice_bounds-put_slash-count
slice_bounds-put_slash-count c = omega (arith, room (goal.at.slice_bounds-put_slash-count c).After-put_text-at)

pub slice_bounds-put_slash-start : goal.slice_bounds-put_slash-start
slice_bounds-put_slash-start c = omega (arith, room (goal.at.slice_bounds-put_slash-start c).After-put_text-at)

pub put_slash-at-requires : goal.put_slash-at-requires
put_slash-at-requires c = rw rest-length (omega (arith, room (goal.at.put_slash-at-requires c).After-put_text-at))

pub overflow_add-at : goal.overflow_add-at
overflow_add-at c = omega (arith, room (goal.at.overflow_add-at c).After-put_text-at)

pub slice_bounds-put_number-count : goal.slice_bounds-put_number-count
slice_bounds-put_number-count c = omega (arith, room (goal.at.slice_bounds-put_number-count c).After-put_text-at)

pub slice_bounds-put_number-start : goal.slice_bounds-put_number-start
slice_bounds-put_number-start c = omega (arith, room (goal.at.slice_bounds-put_number-start c).After-put_text-at)

pub put_number-requires : goal.put_number-requires
put_number-requires c = rw rest-length (omega (arith, room (goal.at.put_number-requires c).After-put_text-at))

pub overflow_add-result : goal.overflow_add-result
overflow_add-result c = omega (arith, room (goal.at.overflow_add-result c).After-put_text-at)

pub returns : goal.returns
returns c = written_both (written_both c.put_text-at.ensures c.put_slash-at.ensures) c.put_number.ensures
