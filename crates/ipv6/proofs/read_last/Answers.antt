-- `read_last` reads the last group after those read: hex digits, else an IPv4 address where one may stand.
use mathlib.Core.Path.{sym, ap, ◌∙◌}
use mathlib.Core.List.{◌++◌}
use native.Mathlib.Omega.{arith}
use lib.ListN.{length}
use Rattle.numeral.proofs.Laws.{h16_le}
use Rattle.ipv6.proofs.GroupLaws.{be-bytes, over, put, missing, last-group, last-ipv4, last_none}
use Rattle.ipv6.proofs.read_last.Goals as goal

pub overflow_cast-v : goal.overflow_cast-v
overflow_cast-v c = omega (arith, h16_le _ _ (sym c.in-Some.ensures))

pub returns-in_err-add : goal.returns-in_err-add
returns-in_err-add c =
    let a = c.args in
    let l = ap length c.to_be_bytes.ensures in
    c.from_residual.ensures ∙ sym (over a.read _ (last-group a.t.now a.tail c.in-Some.v (sym c.in-Some.ensures)) (omega (arith, l, c.in_err-add.ensures.refused)))

pub returns-in-Some : goal.returns-in-Some
returns-in-Some c =
    let a = c.args in
    let bytes = c.to_be_bytes.ensures ∙ be-bytes c.in-Some.v (h16_le _ _ (sym c.in-Some.ensures)) in
    put a.read _ _ (last-group a.t.now a.tail c.in-Some.v (sym c.in-Some.ensures)) (c.in_ok-add.ensures.added ∙ ap (λ b. a.read ++ b) bytes) c.add.ensures.fits

pub returns-in_err-read_ipv4 : goal.returns-in_err-read_ipv4
returns-in_err-read_ipv4 c =
    let a = c.args in
    c.from_residual-in_err-read_ipv4.ensures ∙ sym (missing a.read (last-ipv4 a.t.now a.tail (sym c.in_default.ensures) c.if-tail.true ∙ sym c.in_err-read_ipv4.ensures))

pub returns-in_err-add-2 : goal.returns-in_err-add-2
returns-in_err-add-2 c =
    let a = c.args in
    let four = last-ipv4 a.t.now a.tail (sym c.in_default.ensures) c.if-tail.true ∙ sym c.in_ok-read_ipv4.ensures in
    c.from_residual-in_err-add-2.ensures ∙ sym (over a.read _ four c.in_err-add-2.ensures.refused)

pub returns-then-tail : goal.returns-then-tail
returns-then-tail c =
    let a = c.args in
    let four = last-ipv4 a.t.now a.tail (sym c.in_default.ensures) c.if-tail.true ∙ sym c.in_ok-read_ipv4.ensures in
    put a.read _ _ four c.in_ok-add-2.ensures.added c.add-then-tail.ensures.fits

pub returns : goal.returns
returns c =
    let a = c.args in
    sym (missing a.read (last_none a.t.now a.tail (sym c.in_default.ensures) c.if-tail.false))
