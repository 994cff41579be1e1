-- `sized_text_ok`: by length, one run, two or three test every byte.
use mathlib.Core.Path.{◌∙◌}
use native.Mathlib.Omega.{arith}
use Rattle.texts.proofs.Texts.{text-empty, text-long, text-whole}
use Rattle.texts.proofs.sized_text_ok.Goals as goal

pub returns-in-1-to-3 : goal.returns-in-1-to-3
returns-in-1-to-3 g c = c.text_run.ensures ∙ text-whole _ _ (omega arith) (omega arith)

pub returns-in_default : goal.returns-in_default
returns-in_default g c = text-empty _ _ (omega arith)

pub returns-in_default-2 : goal.returns-in_default-2
returns-in_default-2 g c = text-long _ _ (omega arith)
