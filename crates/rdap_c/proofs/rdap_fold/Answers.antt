-- The five numbers of the answer are written.
use lib.ListN.{length}
use Rattle.changes.specs.Fold.{fold_of}
use Rattle.rdap_c.proofs.rdap_fold.Goals as goal

pub returns : goal.returns
returns c =
    let answered = c.fold-a.ensures in
    record { reply = c.folding_numbers.ensures (fold_of c.args.image.now c.args.changes.now (length c.args.out.now)) answered.numbers; out = answered.out }
