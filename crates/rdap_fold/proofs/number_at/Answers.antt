-- The field that is read lies inside the file.
use Rattle.std.proofs.Common.{arith, sym}
use Rattle.fields.specs.Heads.{field-inside}
use Rattle.rdap_fold.proofs.number_at.Goals as goal

pub loop-at-smaller : goal.loop-at-smaller
loop-at-smaller c = let i = field-inside _ _ _ _ (sym c.in-Some.ensures) in omega (arith, i.after, i.forward)

pub loop-at-preserved : goal.loop-at-preserved
loop-at-preserved c =
    let i = field-inside _ _ _ _ (sym c.in-Some.ensures) in
    record { few = omega (arith, i.after, i.forward); inside = i.within }
