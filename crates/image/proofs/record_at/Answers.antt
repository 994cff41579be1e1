-- Each return is a law on the field that stands there and its judgement (Readings.antt).
use Rattle.std.proofs.lemmas.Result.{err_from_is_err_and}
use Rattle.image.proofs.Readings.{read_short, read-inside, read-good, read-bad}
use Rattle.image.proofs.record_at.Goals as goal

pub returns-in_default : goal.returns-in_default
returns-in_default c =
    read_short c.args.image.now c.args.at c.requires _ c.read.ensures c.in_default.is

pub judge-requires : goal.judge-requires
judge-requires c =
    let i = read-inside c.args.image.now c.args.at c.requires _ c.read.ensures _ c.in-Some.is in
    (i.forward, i.within)

pub returns-in_err-middle : goal.returns-in_err-middle
returns-in_err-middle c =
    let p = err_from_is_err_and c.from_residual.result c.from_residual.ensures.1 in
    rw (p.1, p.2) (read-bad c.args.image.now c.args.at c.requires _ c.read.ensures _ c.in-Some.is _ c.judge.ensures _ c.in_err-middle.was)

pub returns : goal.returns
returns c = read-good c.args.image.now c.args.at c.requires _ c.read.ensures _ c.in-Some.is _ c.judge.ensures _ c.in_ok-middle.was
