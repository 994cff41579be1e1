-- `text_ends`: two runs that overlap or touch test every byte.
use mathlib.Core.Path.{◌∙◌}
use native.Mathlib.Omega.{arith}
use Rattle.texts.proofs.Runs.{every-ends}
use Rattle.texts.proofs.Texts.{text-whole}
use Rattle.texts.proofs.text_ends.Goals as goal

pub returns : goal.returns
returns c =
    let s = c.args.s.now in
    rw (c.text_run.ensures, c.text_run-2.ensures) (every-ends _ s c.args.n (omega arith) (omega arith) ∙ text-whole c.args.low s (omega arith) (omega arith))
