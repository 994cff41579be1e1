-- The verdict on the image, then the changes (Numbered.antt).
use Rattle.final_list.proofs.Numbered.{record_defective}
use Rattle.final_list.proofs.final_record.Goals as goal

pub record_after-requires : goal.record_after-requires
record_after-requires c =
    c.index.ensures.indexed _ c.in-Ok.is

pub returns-in-Err : goal.returns-in-Err
returns-in-Err c = record_defective _ _ _ _ c.index.ensures.verdict _ c.in-Err.is
