use mathlib.Core.Path.{refl, sym, ◌∙◌}
use native.Mathlib.Omega.{arith}
use Rattle.octets.specs.Number.{Bytes}
use Rattle.octets.proofs.Parts.{word_same}
use Rattle.folding.proofs.same_eights.Goals as goal
use Rattle.folding.proofs.same_eights.Goals.{After-shared_slice_known-2-1}

-- both slices hold bytes
known : (c : After-shared_slice_known-2-1) → Bytes c.args.a.now × Bytes c.args.b.now
known c = (
  λ i h. omega (arith, c.type_inv.a i),
  λ i h. omega (arith, c.type_inv.b i),
)

pub loop-i-init : goal.loop-i-init
loop-i-init c = (omega arith, refl)

pub returns-then-word8 : goal.returns-then-word8
returns-then-word8 c = c.loop-i.invariant

pub loop-i-preserved : goal.loop-i-preserved
loop-i-preserved c =
    let l = c.loop-i in
    let a = c.args in (
      omega arith,
      word_same a.a.now a.b.now (known (goal.at.loop-i-preserved c).After-shared_slice_known-2-1).0 (known (goal.at.loop-i-preserved c).After-shared_slice_known-2-1).1 l.i 8 (omega arith) (omega arith) l.invariant.1
          (sym c.word8.ensures ∙ c.if-word8.false ∙ c.word8-in-loop-i.ensures),
    )

pub returns : goal.returns
returns c = c.loop-i.invariant
