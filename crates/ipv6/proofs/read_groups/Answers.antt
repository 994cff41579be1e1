use Prim.Native.Nat.{◌+◌}
use mathlib.Core.Path.{sym, ap, ◌∙◌}
use mathlib.Core.List.{◌++◌}
use native.Mathlib.Omega.{arith}
use lib.ListN.{length, length-drop}
use Rattle.octets.proofs.Pieces.{rest-is}
use Rattle.numeral.proofs.Laws.{h16_le}
use Rattle.ipv4.proofs.Octets.{prefixed-by_nil}
use Rattle.ipv6.specs.Read.{up_to}
use Rattle.ipv6.proofs.GroupLaws.{be-bytes, groups-bad, groups-end, groups-over, groups-next}
use Rattle.ipv6.proofs.read_groups.Goals as goal

pub loop-end-init : goal.loop-end-init
loop-end-init c = (omega arith, c.first_piece-end.ensures, rw c.new-read.ensures (prefixed-by_nil _))

pub returns-in_err-v : goal.returns-in_err-v
returns-in_err-v c =
    let a = c.args in
    let l = c.loop-end in
    c.from_residual.ensures ∙ sym (groups-bad a.tail a.s.now l.rest.now l.read l.end l.invariant.2 l.invariant.1 (omega arith) (sym c.in_err-v.ensures))

pub overflow_cast-v : goal.overflow_cast-v
overflow_cast-v c = omega (arith, h16_le _ _ (sym c.in_ok-v.ensures))

pub returns-in_err-add : goal.returns-in_err-add
returns-in_err-add c =
    let a = c.args in
    let l = c.loop-end in
    let two = ap length c.to_be_bytes.ensures in
    c.from_residual-in_err-add.ensures
    ∙ sym (groups-over a.tail a.s.now l.rest.now l.read l.end l.invariant.2 l.invariant.1 (omega arith) c.in_ok-v.v (sym c.in_ok-v.ensures) (omega (arith, two, c.in_err-add.ensures.refused)))

pub overflow_add-rest : goal.overflow_add-rest
overflow_add-rest c = omega arith

pub loop-end-smaller : goal.loop-end-smaller
loop-end-smaller c =
    let l = c.loop-end in
    rw (rest-is l.rest.now (l.end + 1)) (omega (arith, length-drop (l.end + 1) l.rest.now))

pub loop-end-preserved : goal.loop-end-preserved
loop-end-preserved c =
    let a = c.args in
    let l = c.loop-end in
    let t = l.rest.now in
    let v = sym c.in_ok-v.ensures in
    let bytes = c.in_ok-add.ensures.added ∙ ap (λ b. l.read ++ b) (c.to_be_bytes.ensures ∙ be-bytes c.in_ok-v.v (h16_le _ _ v)) in (
      rw (rest-is t (l.end + 1)) (omega (arith, length-drop (l.end + 1) t)),
      c.first_piece-end-in-loop-end.ensures,
      rw (rest-is t (l.end + 1), bytes) (groups-next a.tail a.s.now t l.read l.end l.invariant.2 l.invariant.1 (omega arith) c.in_ok-v.v v),
    )

pub returns : goal.returns
returns c =
    let a = c.args in
    let l = c.loop-end in
    c.read_last.ensures ∙ ap (up_to 16) (groups-end a.tail a.s.now l.rest.now l.read l.end l.invariant.2 l.invariant.1 (omega arith))
