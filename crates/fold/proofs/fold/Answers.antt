-- The verdict on the image, then the changes (Finals.antt).
use Rattle.fold.proofs.Finals.{fold-defective}
use Rattle.fold.proofs.fold.Goals as goal

pub fold_sound-requires : goal.fold_sound-requires
fold_sound-requires c =
    c.index.ensures.indexed _ c.in-Ok.is

pub returns-in-Err : goal.returns-in-Err
returns-in-Err c =
    let x = fold-defective _ _ _ _ c.index.ensures.verdict _ c.in-Err.is in
    record { numbers = x.numbers; out = x.out }

pub returns-in-Ok : goal.returns-in-Ok
returns-in-Ok c = record { numbers = c.fold_sound.ensures.numbers; out = c.fold_sound.ensures.out }
