use mathlib.Core.Path.{◌≡◌, refl, ◌∙◌, ap}
use Prim.Native.Nat.{◌<◌}
use native.Mathlib.Omega.{arith}
use lib.ListN.{length, get_or, length-take}
use lib.Seq.{get_or-take}
use Rattle.rows.specs.Entry.{row_of}
use Rattle.merged.specs.Held.{bytes_at}
use Rattle.merged.proofs.Rows.{size-next, bytes-bound}
use Rattle.merged.proofs.Records.size.Goals as goal

pub loop-start-init : goal.loop-start-init
unfolding row_of
loop-start-init c = (refl, omega arith)

pub loop-start-preserved : goal.loop-start-preserved
loop-start-preserved c =
    let s = c.args.self.now in
    let l = c.loop-start in
    let h : l.start-index < s.count = omega (arith, c.loop-start-test.true, length-take s.count s.starts) in
    let e : length c.record_at.result.now ≡ length (bytes_at s.image.now s.changes.now (get_or s.starts l.start-index 0)) =
    ap length c.record_at.ensures ∙ rw (get_or-take s.count s.starts l.start-index 0 h) in (
      size-next _ _ _ l.start-index (omega (arith, h, length-take s.count s.starts)) _ _ l.invariant.0 e,
      omega (arith, e, l.invariant.1, bytes-bound s.image.now s.changes.now (get_or s.starts l.start-index 0) c.requires.0 c.requires.1),
    )
