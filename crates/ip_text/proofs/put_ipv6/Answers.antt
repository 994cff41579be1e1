-- A dotted tail where the groups show the prefix, else the shortened groups.
use mathlib.Core.List.{◌++◌}
use mathlib.Core.Path.{◌≡◌, ap}
use native.Mathlib.Omega.{arith}
use lib.ListN.{length}
use Rattle.octets.specs.Ascii.{ascii}
use Rattle.ip_text.specs.Text.{dotted, shortened, ipv6_text}
use Rattle.ip_text.proofs.Forms.{mapped_form, other-zeros, other-group}
use Rattle.ip_text.proofs.put_ipv6.Goals as goal
use Rattle.ip_text.proofs.put_ipv6.Goals.{After-octets_of-octets, Joined-runs-eq5, else-runs-eq5, then-runs-eq5+else-groups-eq65535}

-- where both tests hold, the text has a dotted tail
mapped : (c : After-octets_of-octets) → ascii "::ffff:" ++ dotted c.octets_of-octets.result ≡ ipv6_text (c.args.address.now)
mapped c =
    mapped_form (c.args.address.now) c.groups_of-groups.ensures c.zero_runs-runs.ensures c.if-runs-eq5.true c.if-groups-eq65535.true c.octets_of-octets.ensures

pub put_after-requires : goal.put_after-requires
unfolding ascii
put_after-requires c =
    omega (arith, c.requires.1, ap length (mapped (goal.at.put_after-requires c).After-octets_of-octets))

pub returns-then-groups-eq65535 : goal.returns-then-groups-eq65535
unfolding ascii
returns-then-groups-eq65535 c =
    rw (← mapped (goal.at.returns-then-groups-eq65535 c).After-octets_of-octets) c.put_after.ensures

-- where one of them does not, the groups are shortened
plain : (c : Joined-runs-eq5) → shortened c.groups_of-groups.result ≡ ipv6_text (c.args.address.now)
plain c =
    let is = c.groups_of-groups.ensures in
    (elim c.if-runs-eq5.branch [ then-runs-eq5+else-groups-eq65535 w ↦ other-group (c.args.address.now) is c.zero_runs-runs.ensures w.if-groups-eq65535.false | else-runs-eq5 w ↦ other-zeros (c.args.address.now) is c.zero_runs-runs.ensures w.if-runs-eq5.false ])

pub put_shortened-requires : goal.put_shortened-requires
put_shortened-requires c =
    (c.zero_runs-runs.ensures.run, omega (arith, c.requires.1, ap length (plain (goal.at.put_shortened-requires c).Joined-runs-eq5)))

pub returns : goal.returns
returns c =
    rw (← plain (goal.at.returns c).Joined-runs-eq5) c.put_shortened.ensures
