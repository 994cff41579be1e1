-- `text_ok`: one run tests every byte.
use mathlib.Core.Path.{◌∙◌}
use native.Mathlib.Omega.{arith}
use Rattle.texts.proofs.Texts.{text-empty, text-long, text-whole}
use Rattle.texts.proofs.text_ok.Goals as goal

pub returns-in-1-to-64 : goal.returns-in-1-to-64
returns-in-1-to-64 c = c.text_run.ensures ∙ text-whole _ _ (omega arith) (omega arith)

pub returns-in_default : goal.returns-in_default
returns-in_default c = text-empty _ _ (omega arith)

pub returns-in_default-2 : goal.returns-in_default-2
returns-in_default-2 c = text-long _ _ (omega arith)
