use mathlib.Core.Path.{refl, sym, ◌∙◌}
use Prim.Native.Nat.{◌+◌}
use native.Mathlib.Omega.{arith}
use lib.ListN.{length-drop, length-set}
use Rattle.octets.proofs.Pieces.{rest-is}
use Rattle.numeral.proofs.Laws.{decimal_le}
use Rattle.ipv4.proofs.Octets.{prefixed-by_nil, ipv4-over, ipv4-bad, ipv4-done, ipv4-next}
use Rattle.ipv4.proofs.read_ipv4.Goals as goal

pub loop-i-init : goal.loop-i-init
loop-i-init c = (refl, omega arith, prefixed-by_nil _)

pub returns-in_err-bytes : goal.returns-in_err-bytes
returns-in_err-bytes c =
    let l = c.loop-i in
    let p = c.first_piece-end in
    c.from_residual.ensures ∙ ipv4-bad c.args.s.now l.rest.now l.bytes l.i l.invariant.2 l.invariant.0 p.result p.ensures (sym c.in_err-bytes.ensures)

pub overflow_cast-bytes : goal.overflow_cast-bytes
overflow_cast-bytes c = omega (arith, decimal_le 255 _ _ (sym c.in_ok-bytes.ensures))

pub returns-then-end-rest : goal.returns-then-end-rest
returns-then-end-rest c =
    let l = c.loop-i in
    let p = c.first_piece-end in
    c.then_some.ensures
    ∙ ipv4-done c.args.s.now l.rest.now l.bytes l.i l.invariant.2 l.invariant.0 p.result p.ensures _ (sym c.in_ok-bytes.ensures) (omega arith) (omega arith)

pub overflow_add-rest : goal.overflow_add-rest
overflow_add-rest c = omega arith

pub loop-i-preserved : goal.loop-i-preserved
loop-i-preserved c =
    let l = c.loop-i in
    let p = c.first_piece-end in
    let rest = l.rest.now in (
      simp length-set l.invariant.0,
      rw (rest-is rest (p.result + 1)) (omega (arith, length-drop (p.result + 1) rest)),
      rw (rest-is rest (p.result + 1))
          (ipv4-next c.args.s.now rest l.bytes l.i l.invariant.2 l.invariant.0 p.result p.ensures _ (sym c.in_ok-bytes.ensures) (omega arith) (omega arith)),
    )

pub returns : goal.returns
returns c =
    let l = c.loop-i in
    ipv4-over c.args.s.now l.rest.now l.bytes l.i l.invariant.2 l.invariant.0 (omega arith)
