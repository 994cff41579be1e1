-- The groups on the left, and "::" with those on the right in the rest of the buffer.
use Prim.Native.Nat.{ℕ, ◌+◌, ◌≤◌}
use mathlib.Core.Path.{◌≡◌, ◌∙◌}
use mathlib.Core.List.{List, ◌++◌}
use native.Mathlib.Omega.{arith}
use lib.ListN.{length, length-append}
use Rattle.octets.specs.Ascii.{ascii}
use Rattle.ip_text.specs.Text.{colons}
use Rattle.output.proofs.Writing.{written_both, rest-length}
use Rattle.ip_text.proofs.put_elided.Goals as goal
use Rattle.ip_text.proofs.put_elided.Goals.{After-put_spelled-at}

size : (left right : List ℕ) → length (colons left ++ (ascii "::" ++ colons right)) ≡ length (colons left) + (2 + length (colons right))
unfolding ascii
size left right = length-append (colons left) (ascii "::" ++ colons right) ∙ omega arith

pub put_spelled-at-requires : goal.put_spelled-at-requires
put_spelled-at-requires c =
    let a = c.args in
    omega (arith, c.requires, size a.left.now a.right.now)

room : (c : After-put_spelled-at) → let a = c.args in c.put_spelled-at.result + (2 + length (colons a.right.now)) ≤ length a.text.now
room c =
    let a = c.args in
    omega (arith, c.requires, size a.left.now a.right.now, c.put_spelled-at.ensures.size)

pub slice_bounds-put_after-count : goal.slice_bounds-put_after-count
slice_bounds-put_after-count c = omega (arith, room (goal.at.slice_bounds-put_after-count c).After-put_spelled-at)

pub slice_bounds-put_after-start : goal.slice_bounds-put_after-start
slice_bounds-put_after-start c = omega (arith, room (goal.at.slice_bounds-put_after-start c).After-put_spelled-at)

pub put_after-requires : goal.put_after-requires
put_after-requires c = rw rest-length (omega (arith, room (goal.at.put_after-requires c).After-put_spelled-at))

pub overflow_add-result : goal.overflow_add-result
overflow_add-result c =
    omega (arith, room (goal.at.overflow_add-result c).After-put_spelled-at, c.put_after.ensures.size)

pub returns : goal.returns
unfolding ascii
returns c =
    written_both c.put_spelled-at.ensures c.put_after.ensures
