use mathlib.Core.Path.{◌∙◌}
use native.Mathlib.Omega.{arith}
use Rattle.octets.proofs.Comparing.{byte-differs, byte_same, ends-decide}
use Rattle.words.proofs.compare_rest.Goals as goal

pub returns-then-a-i : goal.returns-then-a-i
returns-then-a-i c =
    let l = c.loop-i in
    c.cmp.ensures ∙ byte-differs _ _ l.i (omega arith) (omega arith) c.if-a-i.true ∙ l.invariant.2

pub loop-i-preserved : goal.loop-i-preserved
loop-i-preserved c =
    let l = c.loop-i in (
      omega arith,
      omega arith,
      byte_same _ _ l.i (omega arith) (omega arith) c.if-a-i.false ∙ l.invariant.2,
    )

pub returns : goal.returns
returns c = c.cmp-2.ensures ∙ ends-decide _ _ c.loop-i.i (omega arith) (omega arith) (omega arith) ∙ c.loop-i.invariant.2
