-- Opens the definitions of this crate and of those below it, for theorems that hold by computing: `unfolding computing`.
use Rattle.pattern.specs.Computing as Pattern
use Rattle.records.specs.Computing as Records
use Rattle.search.specs.Search.{field_of, is_called, is_match}

unfoldable pub computing : Unit {0}
unfolding Pattern.computing Records.computing field_of is_called is_match
computing = tt
