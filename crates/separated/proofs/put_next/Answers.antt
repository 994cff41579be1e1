-- The separator is one byte more than nothing, and the number goes to the rest.
use mathlib.Core.Path.{ap, ◌∙◌}
use native.Mathlib.Omega.{arith}
use lib.ListN.{length, length-set}
use Rattle.digits.specs.Base.{radix}
use Rattle.numeral.proofs.Spelled.{following-one}
use Rattle.output.proofs.Writing.{written-nothing, written_one, written_both, rest-length}
use Rattle.separated.proofs.put_next.Goals as goal

pub bounds-text-0 : goal.bounds-text-0
bounds-text-0 c = omega (arith, ap length (following-one c.args.sep (radix c.args.base) c.args.n))

pub slice_bounds-put_number-count : goal.slice_bounds-put_number-count
slice_bounds-put_number-count c =
    omega (arith, length-set c.args.text.now 0 c.args.sep, ap length (following-one c.args.sep (radix c.args.base) c.args.n))

pub slice_bounds-put_number-start : goal.slice_bounds-put_number-start
slice_bounds-put_number-start c =
    omega (arith, length-set c.args.text.now 0 c.args.sep, ap length (following-one c.args.sep (radix c.args.base) c.args.n))

pub put_number-requires : goal.put_number-requires
put_number-requires c =
    let a = c.args in
    rw rest-length (omega (arith, length-set a.text.now 0 a.sep, ap length (following-one a.sep (radix a.base) a.n)))

pub overflow_add-result : goal.overflow_add-result
overflow_add-result c =
    let a = c.args in
    omega (arith, c.put_number.ensures.size, ap length (following-one a.sep (radix a.base) a.n))

pub shape_of-text : goal.shape_of-text
shape_of-text c = c.text-1.given.1 ∙ simp length-set

pub returns : goal.returns
returns c =
    let a = c.args in
    let some = ap length (following-one a.sep (radix a.base) a.n) in
    rw (following-one a.sep (radix a.base) a.n) (written_both (written_one a.sep (omega (arith, some)) (written-nothing a.text.now)) c.put_number.ensures)
