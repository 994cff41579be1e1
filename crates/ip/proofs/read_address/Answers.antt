-- `read_address` answers as the definition says: by the IPv4 reader first, then by the IPv6 reader, which gets the text without its zone.
use mathlib.Core.Path.{◌≡◌, sym, ap, ◌∙◌}
use mathlib.Core.List.{append-nil}
use lib.ListN.{length}
use Rattle.ipv6.specs.Ipv6.{ipv6}
use Rattle.ip.proofs.Answers.{answer-four, answer-six, answer-none}
use Rattle.ip.proofs.read_address.Goals as goal

pub returns-in-Some : goal.returns-in-Some
returns-in-Some c =
    let four = c.in-Some.four in
    let l : length four ≡ 4 = cc (ap length c.copy_from_slice.ensures.after) in
    answer-four c.args.s.now four _ (sym c.in-Some.ensures) l (rw (append-nil, c.copy_from_slice.ensures.after))

pub returns-in_err-bytes : goal.returns-in_err-bytes
returns-in_err-bytes c =
    let six = c.in_err-bytes.ensures ∙ ap ipv6 c.without_zone.ensures in
    c.from_residual.ensures ∙ answer-none c.args.s.now (sym c.in_default.ensures) (sym six)

pub returns : goal.returns
returns c =
    let six = c.in_ok-bytes.ensures ∙ ap ipv6 c.without_zone.ensures in
    answer-six c.args.s.now (sym c.in_default.ensures) _ (sym six)
