use Prim.Native.Nat.{◌+◌, ◌*◌}
use mathlib.Core.Path.{◌∙◌}
use native.Mathlib.Omega.{arith}
use lib.ListN.{get_or, length-set}
use Rattle.octets.proofs.Fronts.{pushed}
use Rattle.ip_groups.proofs.Arrays.{groups-next, groups-all}
use Rattle.ip_groups.proofs.groups_of.Goals as goal

pub overflow_cast-high : goal.overflow_cast-high
overflow_cast-high c = omega (arith, c.type_inv.bytes (2 * c.loop-i.i))

pub overflow_cast-low : goal.overflow_cast-low
overflow_cast-low c = omega (arith, c.type_inv.bytes (2 * c.loop-i.i + 1))

pub overflow_mul-groups : goal.overflow_mul-groups
overflow_mul-groups c =
    let i = c.loop-i.i in
    omega (arith, c.type_inv.bytes (2 * i), c.type_inv.bytes (2 * i + 1))

pub overflow_add-groups : goal.overflow_add-groups
overflow_add-groups c =
    let i = c.loop-i.i in
    omega (arith, c.type_inv.bytes (2 * i), c.type_inv.bytes (2 * i + 1))

pub loop-i-preserved : goal.loop-i-preserved
loop-i-preserved c =
    let a = c.args in
    let l = c.loop-i in
    let g = get_or a.bytes.now (2 * l.i) 0 * 256 + get_or a.bytes.now (2 * l.i + 1) 0 in (
      length-set l.groups l.i g ∙ l.invariant.0,
      pushed g l.i l.groups (omega arith) _ _ (rw (← groups-next a.bytes.now l.i (omega arith)) l.invariant.1),
    )

pub returns : goal.returns
returns c =
    let a = c.args in
    let l = c.loop-i in
    groups-all a.bytes.now l.groups l.i c.requires l.invariant.0 (omega arith) l.invariant.1
