-- Case is folded as the text asks, and the part is the one that it is.
use mathlib.Core.Path.{sym, ◌∙◌}
use Rattle.search.proofs.Picks.{matched}
use Rattle.by_pattern.proofs.matching.Goals as goal

pub returns-in-Handle : goal.returns-in-Handle
returns-in-Handle c =
    let a = c.args in
    matched a.run a.text a.form a.pattern.now a.image.now c.folds_case-fold.ensures
    (sym c.in-Handle.is ∙ c.which_of-which.ensures) c.list_picked.ensures

pub returns-in_default : goal.returns-in_default
returns-in_default c =
    let a = c.args in
    matched a.run a.text a.form a.pattern.now a.image.now c.folds_case-fold.ensures c.which_of-which.ensures c.list_picked-in_default.ensures
