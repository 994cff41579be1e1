-- The theorem `order`, for two digits to the base 2 ^ 64.
use mathlib.Core.Path.{◌∙◌, sym, ap₂}
use native.Mathlib.Omega.{arith}
use lib.Dec.{leb, ltb}
use Rattle.octets.specs.Number.{Bytes}
use Rattle.octets.proofs.Pairs.{high-words-differ, high_words_same}
use Rattle.words.proofs.order16.Goals as goal

pub returns-then-high-other : goal.returns-then-high-other
returns-then-high-other c =
    let a : Bytes c.args.a.now = λ i h. omega (arith, c.type_inv.a i) in
    let b : Bytes c.args.b.now = λ i h. omega (arith, c.type_inv.b i) in
    let h = c.word8-high.ensures in
    let g = c.word8-other.ensures in
    ap₂ ltb h g ∙ high-words-differ c.args.a.now c.args.x c.args.b.now c.args.y c.requires.0 c.requires.1 a b (λ e. c.if-high-other.true (h ∙ e ∙ sym g))

pub returns : goal.returns
returns c =
    let a : Bytes c.args.a.now = λ i h. omega (arith, c.type_inv.a i) in
    let b : Bytes c.args.b.now = λ i h. omega (arith, c.type_inv.b i) in
    ap₂ leb c.word8.ensures c.word8-2.ensures
    ∙ high_words_same c.args.a.now c.args.x c.args.b.now c.args.y c.requires.0 c.requires.1 a b (sym c.word8-high.ensures ∙ c.if-high-other.false ∙ c.word8-other.ensures)
