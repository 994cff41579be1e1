-- `read_side` reads a side of "::": nothing, or groups.
use mathlib.Core.Path.{sym, ap, ◌∙◌}
use native.Mathlib.Omega.{arith}
use Rattle.ipv6.specs.Read.{up_to}
use Rattle.ipv6.proofs.GroupLaws.{side-empty, side-groups}
use Rattle.ipv6.proofs.read_side.Goals as goal

pub returns-then-is_empty : goal.returns-then-is_empty
unfolding up_to
returns-then-is_empty c =
    let e = side-empty c.args.tail c.args.s.now (grind arith) in
    rw (c.new.ensures, e)

pub returns : goal.returns
returns c = c.read_groups.ensures ∙ ap (up_to 16) (sym (side-groups c.args.tail c.args.s.now (grind arith)))
