-- The first number, and the others in the rest of the buffer, each after a separator.
use Prim.Native.Nat.{◌+◌}
use mathlib.Core.Path.{◌≡◌}
use native.Mathlib.Omega.{arith}
use lib.ListN.{length, drop}
use Rattle.octets.proofs.Pieces.{rest-is}
use Rattle.numeral.specs.Digits.{spelled, following}
use Rattle.digits.specs.Base.{radix}
use Rattle.output.proofs.Writing.{written-nothing, written_both, rest-length}
use Rattle.separated.proofs.Following.{spelled_none, spelled-first, length-first}
use borrow.Author.Rules.{rules}
use Rattle.separated.proofs.put_spelled.Goals as goal
use Rattle.separated.proofs.put_spelled.Goals.{After-put_number-at}

pub returns-then-numbers-eq0 : goal.returns-then-numbers-eq0
returns-then-numbers-eq0 c =
    let a = c.args in
    rw (spelled_none a.sep (radix a.base) a.numbers.now (search rules)) (written-nothing a.text.now)

pub put_number-at-requires : goal.put_number-at-requires
put_number-at-requires c =
    let a = c.args in
    omega (arith, length-first a.sep (radix a.base) a.numbers.now (omega arith))

-- how long the whole is, and what the first number takes of it
room : (c : After-put_number-at) → let a = c.args in
    c.put_number-at.result + length (following a.sep (radix a.base) (drop 1 a.numbers.now)) ≡ length (spelled a.sep (radix a.base) a.numbers.now)
room c =
    let a = c.args in
    omega (arith, c.put_number-at.ensures.size, length-first a.sep (radix a.base) a.numbers.now (omega (arith, c.if-numbers-eq0.false)))

pub slice_bounds-put_following-count-2 : goal.slice_bounds-put_following-count-2
slice_bounds-put_following-count-2 c = omega (arith, room (goal.at.slice_bounds-put_following-count-2 c).After-put_number-at)

pub slice_bounds-put_following-start-2 : goal.slice_bounds-put_following-start-2
slice_bounds-put_following-start-2 c = omega (arith, room (goal.at.slice_bounds-put_following-start-2 c).After-put_number-at)

pub put_following-requires : goal.put_following-requires
put_following-requires c = rw (rest-length, rest-is) (omega (arith, room (goal.at.put_following-requires c).After-put_number-at))

pub overflow_add-result : goal.overflow_add-result
overflow_add-result c =
    let rest = rw (rest-is c.args.numbers.now 1) at c.put_following.ensures.size in
    omega (arith, rest, room (goal.at.overflow_add-result c).After-put_number-at)

pub returns : goal.returns
returns c =
    let a = c.args in
    rw (spelled-first a.sep (radix a.base) a.numbers.now (omega arith), ← rest-is a.numbers.now 1)
    (written_both c.put_number-at.ensures c.put_following.ensures)
