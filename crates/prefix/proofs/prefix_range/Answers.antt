-- The low bits are zero, or the prefix is refused; the last address has them set.
use mathlib.Core.Path.{◌≡◌, sym, ap, ◌∙◌}
use Prim.Native.Nat.{◌+◌, ◌-◌, ◌^◌, ◌%◌}
use native.Mathlib.Omega.{arith}
use Rattle.octets.specs.Number.{value}
use Rattle.octets.proofs.BigEndian.{value-high_first}
use Rattle.prefix.proofs.LowBits.{low_part, low_set, low-fits, ranged, none-ranged}
use Rattle.prefix.proofs.prefix_range.Goals as goal

pub returns-then-number-low-ne0 : goal.returns-then-number-low-ne0
returns-then-number-low-ne0 c =
    let part = low_part _ c.number-number.result _ c.low_ones-low.ensures in
    none-ranged _ _ _ (rw (← c.number-number.ensures) (omega (arith, part)))

pub returns : goal.returns
returns c =
    let n = c.number-number.result in
    let zero : n % 2 ^ (c.args.bits - c.args.l) ≡ 0 = sym (low_part _ n _ c.low_ones-low.ensures) ∙ c.if-number-low-ne0.false in
    let set = low_set _ n _ c.low_ones-low.ensures 128 (omega arith) c.number-number.type_inv zero in
    let fits = low-fits _ n _ c.low_ones-low.ensures 128 (omega arith) c.number-number.type_inv zero in
    let last = ap value c.to_be_bytes.ensures ∙ value-high_first 16 _ fits in
    ranged _ _ _ _ (rw (← c.number-number.ensures) zero) (ap (λ v. v + 1) last ∙ set ∙ ap (λ v. v + 2 ^ (c.args.bits - c.args.l)) c.number-number.ensures)
