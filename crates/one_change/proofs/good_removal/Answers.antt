-- The tag and the key (Changes.antt).
use Rattle.one_change.proofs.Changes.{remove-by}
use Rattle.one_change.proofs.good_removal.Goals as goal

pub returns : goal.returns
returns c = remove-by _ c.in-len1-up.len_at_least c.if-tag-lt-IPV4_NETWORK.false c.if-tag-gt-ENTITY.false _ c.good_key.ensures
