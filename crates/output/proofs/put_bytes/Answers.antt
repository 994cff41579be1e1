use mathlib.Core.Path.{◌≡◌, refl, ◌∙◌}
use native.Mathlib.Omega.{arith}
use lib.ListN.{length, length-set}
use lib.Seq.{take-length}
use Rattle.output.proofs.Replies.{copied_next}
use Rattle.output.proofs.put_bytes.Goals as goal

pub loop-i-init : goal.loop-i-init
loop-i-init c = (refl, omega arith, refl, refl)

pub loop-i-preserved : goal.loop-i-preserved
loop-i-preserved c =
    let a = c.args in
    let l = c.loop-i in (
      refl,
      omega arith,
      length-set l.out l.i _ ∙ l.invariant.2,
      rw l.invariant.3 (copied_next a.s.now a.out.now l.i (omega arith) (omega arith)),
    )

pub returns : goal.returns
returns c =
    let l = c.loop-i in
    let e : l.i ≡ length c.args.s.now = omega arith in
    record { size = refl; is = l.invariant.3 ∙ rw (e, take-length) }

pub bounds-out-i : goal.bounds-out-i
bounds-out-i c = omega arith
