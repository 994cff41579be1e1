-- Opens the definitions of this crate and of those below it, for theorems that hold by computing: `unfolding computing`.
use Rattle.cidr.specs.Computing as Cidr
use Rattle.prefix_bytes.specs.Entry.{big_endian, entry_of, entries_of}

unfoldable pub computing : Unit {0}
unfolding Cidr.computing big_endian entry_of entries_of
computing = tt
