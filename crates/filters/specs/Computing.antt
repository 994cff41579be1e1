-- Opens the definitions of this crate and of those below it, for theorems that hold by computing: `unfolding computing`.
use Rattle.numeral.specs.Computing as Numeral
use Rattle.prefixes.specs.Computing as Prefixes
use Rattle.ip_text.specs.Computing as IpText
use Rattle.formats.specs.Computing as Formats
use Rattle.filters.specs.Filter.{prefix_text, rows_of, laid_out, network_text, filter_text, text_in}
use Rattle.filters.specs.Rows.{entry_rows}

unfoldable pub computing : Unit {0}
unfolding Numeral.computing Prefixes.computing IpText.computing Formats.computing prefix_text rows_of laid_out network_text filter_text text_in entry_rows
computing = tt
