-- The width is that of the range's length.
use native.Mathlib.Omega.{arith}
use Rattle.prefixes.proofs.Answers.{four, sixteen, neither}
use Rattle.prefixes.proofs.prefixes.Goals as goal

pub returns-in-8 : goal.returns-in-8
returns-in-8 c =
    let e = c.listed.ensures in
    let t = four _ c.args.out.now _ _ c.in-8.is (e.numbers, e.out) in
    record { numbers = t.0; out = t.1 }

pub returns-in-32 : goal.returns-in-32
returns-in-32 c =
    let e = c.listed-in-32.ensures in
    let t = sixteen _ c.args.out.now _ _ c.in-32.is (e.numbers, e.out) in
    record { numbers = t.0; out = t.1 }

pub returns-in_default : goal.returns-in_default
returns-in_default c =
    let t = neither c.args.range.now c.args.out.now (λ e. omega arith) (λ e. omega arith) in
    record { numbers = t.0; out = t.1 }
