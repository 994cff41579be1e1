-- Opens the definitions of this crate and of those below it, for theorems that hold by computing: `unfolding computing`.
use Rattle.records.specs.Computing as Records
use Rattle.image.specs.Image.{image_from, starts_right, image_of}
use Rattle.image.specs.Entries.{start_of, contents_span, span_of}
use Rattle.image.specs.Index.{tag_of}

unfoldable pub computing : Unit {0}
unfolding Records.computing image_from starts_right image_of start_of contents_span span_of tag_of
computing = tt
