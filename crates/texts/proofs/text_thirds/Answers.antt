-- `text_thirds`: three runs of which the last two overlap or touch test every byte.
use mathlib.Core.Path.{◌∙◌}
use native.Mathlib.Omega.{arith}
use Rattle.texts.proofs.Runs.{every-thirds}
use Rattle.texts.proofs.Texts.{text-whole}
use Rattle.texts.proofs.text_thirds.Goals as goal

pub returns : goal.returns
returns c =
    let s = c.args.s.now in
    rw (c.text_run.ensures, c.text_run-2.ensures, c.text_run-3.ensures) (every-thirds _ s c.args.n (omega arith) (omega arith) ∙ text-whole c.args.low s (omega arith) (omega arith))
