-- The length and the start, then the records (Noted.antt).
use mathlib.Core.Path.{◌∙◌, sym}
use Rattle.image.proofs.Walk.{start-length}
use Rattle.image.proofs.Noted.{index_long, index_wrong, index_walked}
use Rattle.image.proofs.index.Goals as goal

pub returns-then-image-gt-MOST_IMAGE : goal.returns-then-image-gt-MOST_IMAGE
returns-then-image-gt-MOST_IMAGE c = index_long _ _ c.if-image-gt-MOST_IMAGE.true _ c.at.ensures

pub returns-then-not-starts_right : goal.returns-then-not-starts_right
returns-then-not-starts_right c = index_wrong _ _ c.if-image-gt-MOST_IMAGE.false (sym c.starts_right.ensures ∙ c.if-not-starts_right.true) _ c.at-then-not-starts_right.ensures

pub index_from-requires : goal.index_from-requires
index_from-requires c =
    (start-length _ (sym c.starts_right.ensures ∙ c.if-not-starts_right.false), c.if-image-gt-MOST_IMAGE.false, c.requires)

pub returns : goal.returns
returns c =
    index_walked _ _ c.if-image-gt-MOST_IMAGE.false (sym c.starts_right.ensures ∙ c.if-not-starts_right.false) _ c.index_from.ensures
