-- `without_zone`: by whether a byte follows the first percent sign.
use mathlib.Core.Path.{◌∙◌}
use native.Mathlib.Omega.{arith}
use Rattle.ip.proofs.Zones.{zone_dropped, zone_missing}
use Rattle.ip.proofs.without_zone.Goals as goal

pub returns-then-zone-ge1 : goal.returns-then-zone-ge1
returns-then-zone-ge1 c = c.before_first.ensures ∙ zone_dropped _ _ c.after_first-zone.ensures (omega arith)

pub returns : goal.returns
returns c = zone_missing _ _ c.after_first-zone.ensures (omega arith)
