-- Opens the definitions of this crate and of those below it, for theorems that hold by computing: `unfolding computing`.
use Rattle.address.specs.Computing as Address
use Rattle.texts.specs.Computing as Name
use Rattle.fields.specs.Computing as Fields
use Rattle.records.specs.Record.{record_of, good_name, good_contents, sorted_after, follows, crosses_block}
use Rattle.records.specs.Judge.{in_order, crosses_any, judge_alone}
use Rattle.records.specs.Positions.{range_span, handle_span, name_span}

unfoldable pub computing : Unit {0}
unfolding Address.computing Name.computing Fields.computing record_of good_name good_contents sorted_after follows crosses_block in_order crosses_any judge_alone range_span handle_span name_span
computing = tt
