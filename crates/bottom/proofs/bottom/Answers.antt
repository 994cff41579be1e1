-- `bottom::bottom` meets its contract.
use mathlib.Core.Path.{refl}
use Rattle.scans.proofs.Walks.{asked-accepted}
use Rattle.links.proofs.Gathers.{reachable, gathered, numbered}
use Rattle.bottom.proofs.Picks.{bottom-some, bottom-none}
use Rattle.bottom.proofs.bottom.Goals as goal

pub returns-then-not-any_inside : goal.returns-then-not-any_inside
returns-then-not-any_inside c = bottom-none _ (asked-accepted c.requires.0) _ c.any_inside.ensures (c.if-not-any_inside.true) c.requires.1

pub gather-n-requires : goal.gather-n-requires
gather-n-requires c = (reachable c.requires.0, refl)

pub holders-requires : goal.holders-requires
holders-requires c =
    let p = c.requires in
    (gathered p.0 c.gather-n.ensures, numbered p.0 c.gather-n.ensures, p.1)

pub returns : goal.returns
returns c =
    bottom-some _ (asked-accepted c.requires.0) _ c.any_inside.ensures (c.if-not-any_inside.false) c.holders.ensures
