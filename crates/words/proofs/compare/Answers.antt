use mathlib.Core.Path.{sym, ap₂, ◌∙◌}
use native.Mathlib.Omega.{arith}
use Rattle.std.specs.Ordering.{nat_cmp}
use Rattle.octets.specs.Number.{Bytes}
use Rattle.octets.proofs.Parts.{words-differ, words_same}
use Rattle.words.proofs.compare.Goals as goal

pub returns-then-x-y : goal.returns-then-x-y
returns-then-x-y c =
    let a : Bytes c.args.a.now = λ i h. omega (arith, c.type_inv.a i) in
    let b : Bytes c.args.b.now = λ i h. omega (arith, c.type_inv.b i) in
    let x = c.word8-x.ensures in
    let y = c.word8-y.ensures in
    c.cmp.ensures ∙ ap₂ nat_cmp x y
    ∙ words-differ c.args.a.now c.args.b.now a b c.loop-i.i 8 (omega arith) (omega arith) (λ e. c.if-x-y.true (x ∙ e ∙ sym y))
    ∙ c.loop-i.invariant.3

pub loop-i-preserved : goal.loop-i-preserved
loop-i-preserved c =
    let a : Bytes c.args.a.now = λ i h. omega (arith, c.type_inv.a i) in
    let b : Bytes c.args.b.now = λ i h. omega (arith, c.type_inv.b i) in
    let x = c.word8-x.ensures in
    let y = c.word8-y.ensures in (
      omega arith,
      omega arith,
      omega arith,
      words_same c.args.a.now c.args.b.now a b c.loop-i.i 8 (omega arith) (omega arith) (sym x ∙ c.if-x-y.false ∙ y) ∙ c.loop-i.invariant.3,
    )

pub returns : goal.returns
returns c = c.compare_rest.ensures ∙ c.loop-i.invariant.3
