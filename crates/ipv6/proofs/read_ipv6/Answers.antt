-- `read_ipv6` is `ipv6`: the sides of "::" where it stands, else eight groups. What is refused has no bytes, or more than sixteen.
use Prim.Native.Nat.{◌+◌}
use mathlib.Core.Bool.{true, false}
use mathlib.Core.Path.{sym, ap, ◌∙◌}
use lib.ListN.{take, drop}
use Rattle.octets.proofs.Pieces.{rest-is}
use Rattle.ipv4.specs.Ipv4.{exactly}
use Rattle.ipv6.specs.Ipv6.{side}
use Rattle.ipv6.proofs.GroupLaws.{up-to-some, exactly-none, elided-left, elided-right, ipv6-short, ipv6-full}
use Rattle.ipv6.proofs.read_ipv6.Goals as goal

pub returns-in_err-left : goal.returns-in_err-left
returns-in_err-left c =
    let s = c.args.s.now in
    c.from_residual.ensures ∙ sym (ipv6-short s c.in-Some.at c.in-Some.ensures.first ∙ elided-left _ _ (sym c.in_err-left.ensures))

pub returns-in_err-right : goal.returns-in_err-right
returns-in_err-right c =
    let s = c.args.s.now in
    c.from_residual-in_err-right.ensures ∙ sym (ipv6-short s c.in-Some.at c.in-Some.ensures.first ∙ elided-right _ _ (sym (rw rest-is at c.in_err-right.ensures)))

pub returns-in-Some : goal.returns-in-Some
returns-in-Some c =
    let s = c.args.s.now in
    let at = c.in-Some.at in
    let left = up-to-some (side false (take at s)) _ c.in_ok-left.ensures in
    let right = up-to-some (side true (drop (at + 2) s)) _ (rw rest-is at c.in_ok-right.ensures) in
    c.join_sides.ensures ∙ rw (c.as_slice.ensures, c.as_slice-in-Some.ensures) (sym (rw (left, right) at (ipv6-short s at c.in-Some.ensures.first)))

pub returns-in_err-read_groups : goal.returns-in_err-read_groups
returns-in_err-read_groups c =
    let s = c.args.s.now in
    c.from_residual-in_err-read_groups.ensures ∙ sym (ipv6-full s c.in_default.ensures.first ∙ exactly-none _ (sym c.in_err-read_groups.ensures))

pub returns : goal.returns
returns c =
    let s = c.args.s.now in
    c.address.ensures ∙ sym (ipv6-full s c.in_default.ensures.first ∙ ap (exactly 16) (up-to-some _ _ c.in_ok-read_groups.ensures))
