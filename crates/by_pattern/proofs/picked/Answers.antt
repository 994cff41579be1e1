-- A record is picked by its text.
use mathlib.Core.Path.{ap, ◌∙◌}
use Rattle.pattern.specs.Pattern.{matches_form}
use Rattle.by_pattern.proofs.picked.Goals as goal

pub returns : goal.returns
returns c = c.form_matches.ensures ∙ ap (matches_form _ _ _) c.text_at.ensures
