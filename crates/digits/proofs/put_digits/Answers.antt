use Prim.Native.Nat.{ℕ, suc, ◌-◌, ◌/◌, ◌<◌}
use mathlib.Core.Path.{◌≡◌, refl, ap, ◌∙◌}
use mathlib.Core.List.{◌++◌}
use native.Mathlib.Omega.{arith}
use native.Mathlib.Nat.{mod-lt, div-lt_self}
use lib.ListN.{drop, length-set}
use Rattle.numeral.specs.Digits.{numeral_text}
use Rattle.numeral.proofs.Digits.{text-some}
use Rattle.digits.proofs.Storing.{count-more, store_digit, store_first}
use borrow.Author.Rules.{rules}
use Rattle.digits.proofs.put_digits.Goals as goal

pub overflow_sub-i : goal.overflow_sub-i
overflow_sub-i g c =
    let a = c.args in
    omega (arith, c.count_digits-count.ensures, text-some g.row.BASE (search rules) (search rules) a.n)

pub loop-v-init : goal.loop-v-init
loop-v-init g c =
    let a = c.args in
    let n = c.count_digits-count.result in
    let some = text-some g.row.BASE (search rules) (search rules) a.n in
    let e : suc (n - 1) ≡ n = omega (arith, c.count_digits-count.ensures) in
    (c.count_digits-count.ensures, omega (arith, c.count_digits-count.ensures), refl, omega (arith, c.count_digits-count.ensures), ap (λ (i : ℕ). numeral_text g.row.BASE a.n ++ drop i a.text.now) e)

pub digit-requires : goal.digit-requires
digit-requires g c =
    let a = c.args in
    let some-base : 0 < g.row.BASE = omega arith in
    omega (arith, mod-lt c.loop-v.v some-base)

pub overflow_sub-i-in-loop-v : goal.overflow_sub-i-in-loop-v
overflow_sub-i-in-loop-v g c =
    let a = c.args in
    let l = c.loop-v in
    omega (arith, l.invariant.3, count-more g.row.BASE (search rules) l.v (search rules), text-some g.row.BASE (search rules) (search rules) (l.v / g.row.BASE))

pub loop-v-smaller : goal.loop-v-smaller
loop-v-smaller g c = div-lt_self (omega arith) (omega arith)

pub loop-v-preserved : goal.loop-v-preserved
loop-v-preserved g c =
    let a = c.args in
    let l = c.loop-v in
    let more = count-more g.row.BASE (search rules) l.v (search rules) in
    let some = text-some g.row.BASE (search rules) (search rules) (l.v / g.row.BASE) in
    let long = length-set l.text l.i c.digit.result in (
      l.invariant.0,
      omega (arith, l.invariant.1),
      long ∙ l.invariant.2,
      omega (arith, l.invariant.3),
      rw c.digit.ensures (store_digit g.row.BASE (search rules) l.v l.text l.i l.invariant.1 l.invariant.3 l.invariant.4 (search rules) (omega (arith, l.invariant.3))),
    )

pub returns : goal.returns
returns g c =
    let a = c.args in
    let l = c.loop-v in
    record {
      size = l.invariant.0;
      is = rw c.digit-2.ensures (store_first g.row.BASE (search rules) l.v l.text l.i l.invariant.1 l.invariant.3 l.invariant.4 (search rules));
    }
