-- Opens the definitions of this crate and of those below it, for theorems that hold by computing: `unfolding computing`.
use Rattle.prefix_bytes.specs.Computing as PrefixBytes
use Rattle.prefixes.specs.Call.{ip_range, ip_range_of, prefixes_in, entries_in, prefixed_of, buffer_after}

unfoldable pub computing : Unit {0}
unfolding PrefixBytes.computing ip_range ip_range_of prefixes_in entries_in prefixed_of buffer_after
computing = tt
