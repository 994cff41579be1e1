-- Opens the definitions of this crate for theorems that hold by computing: `unfolding computing`.
use Rattle.octets.specs.Lists.{every, contains, found}
use Rattle.octets.specs.Number.{value_from, value, at_most}
use Rattle.octets.specs.Order.{compared}
use Rattle.octets.specs.Split.{join_first, split, before, after}
use Rattle.octets.specs.Scan.{everywhere, somewhere}
use Rattle.octets.specs.Ascii.{ascii}

unfoldable pub computing : Unit {0}
unfolding every contains found value_from value at_most compared join_first split before after everywhere somewhere ascii
computing = tt
