use Prim.Native.Nat.{◌+◌, ◌*◌, ◌<◌}
use mathlib.Core.Path.{◌≡◌, sym, ap, ◌∙◌}
use native.Mathlib.Omega.{arith}
use lib.ListN.{get_or, drop}
use Rattle.numeral.specs.Numeral.{digit_value}
use Rattle.numeral.proofs.Laws.{same_digit, other_byte, value-fits, above-max, next_digit, no_digit, numeral-empty, numeral-start, numeral-end}
use Rattle.numeral.proofs.read_numeral.Goals as goal
use Rattle.numeral.proofs.read_numeral.Goals.{After-from-in-loop-c-2}

-- the byte is a digit, and the number that it makes
module _ (c : After-from-in-loop-c-2) where
  digit : digit_value (get_or c.args.s.now c.loop-c.c-index 0) ≡ c.in_ok-d.d
  digit =
      let v = c.in_ok-d.ensures.value in
      ap digit_value (sym c.from.ensures) ∙ same_digit c.args.base c.from.result (omega arith) v.0 ∙ sym v.1

  below : digit_value (get_or c.args.s.now c.loop-c.c-index 0) < c.args.base
  below = omega (arith, digit, c.in_ok-d.ensures.value)

  longer : c.loop-c.v * c.from-in-loop-c.result + c.from-in-loop-c-2.result ≡ c.loop-c.v * c.args.base + digit_value (get_or c.args.s.now c.loop-c.c-index 0)
  longer = cc (digit, c.from-in-loop-c.ensures, c.from-in-loop-c-2.ensures)

pub returns-then-is_empty : goal.returns-then-is_empty
returns-then-is_empty c = sym (numeral-empty _ _ _ (grind arith))

pub loop-c-init : goal.loop-c-init
loop-c-init c = (omega arith, numeral-start _ _ _ (grind arith))

pub returns-in_err-d : goal.returns-in_err-d
returns-in_err-d c =
    let l = c.loop-c in
    let a = c.args in
    let none = other_byte a.base c.from.result (omega arith) c.in_err-d.ensures.value in
    c.from_residual.ensures ∙ sym (no_digit a.base a.max l.v a.s.now l.c-index (omega arith) (rw (← c.from.ensures) none)) ∙ l.invariant.1

pub overflow_mul-v : goal.overflow_mul-v
overflow_mul-v c =
    let l = c.loop-c in
    let a = c.args in
    rw c.from-in-loop-c.ensures (omega (arith, value-fits a.base a.max l.v 0 (omega arith) (omega arith) (omega arith) (omega arith)))

pub overflow_add-v : goal.overflow_add-v
overflow_add-v c =
    let l = c.loop-c in
    let a = c.args in
    let d = (goal.at.overflow_add-v c).After-from-in-loop-c-2 in
    rw (longer d) (omega (arith, value-fits a.base a.max l.v (digit_value (get_or a.s.now l.c-index 0)) (omega arith) (omega arith) (omega arith) (omega (arith, below d))))

pub returns-then-v-max : goal.returns-then-v-max
returns-then-v-max c =
    let l = c.loop-c in
    let a = c.args in
    let d = (goal.at.returns-then-v-max c).After-from-in-loop-c-2 in
    let v = l.v * a.base + digit_value (get_or a.s.now l.c-index 0) in
    sym (above-max a.base a.max v (drop (l.c-index + 1) a.s.now) (omega arith) (omega (arith, longer d)))
    ∙ sym (next_digit a.base a.max l.v a.s.now l.c-index (omega arith) (below d))
    ∙ l.invariant.1

pub loop-c-preserved : goal.loop-c-preserved
loop-c-preserved c =
    let l = c.loop-c in
    let a = c.args in
    let d = (goal.at.loop-c-preserved c).After-from-in-loop-c-2 in
    (omega arith, rw (longer d) (sym (next_digit a.base a.max l.v a.s.now l.c-index (omega arith) (below d)) ∙ l.invariant.1))

pub returns : goal.returns
returns c =
    let l = c.loop-c in
    let a = c.args in
    sym (numeral-end a.base a.max l.v l.c-index a.s.now (omega arith) (omega arith)) ∙ l.invariant.1
