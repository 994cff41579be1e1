-- Nothing shortened, or the groups on both sides of the run.
use Prim.Native.Nat.{◌+◌, ◌≤◌}
use mathlib.Core.Path.{ap, sym}
use native.Mathlib.Omega.{arith}
use lib.ListN.{length}
use lib.Seq.{length-take-le}
use Rattle.ip_text.proofs.Forms.{run_inside, plain_form, short_form}
use borrow.Author.Rules.{rules}
use Rattle.ip_text.proofs.put_shortened.Goals as goal
use Rattle.ip_text.proofs.put_shortened.Goals.{Start}

-- the run stands within the groups
inside : (c : Start) → let a = c.args in 2 ≤ a.longest → a.at + a.longest ≤ length a.groups.now
inside c = run_inside c.requires.0

pub put_spelled-requires : goal.put_spelled-requires
put_spelled-requires c =
    let p = c.requires in
    omega (arith, p.1, ap length (plain_form p.0 (search rules)))

pub returns-then-longest-lt2 : goal.returns-then-longest-lt2
returns-then-longest-lt2 c =
    rw (← plain_form c.requires.0 (search rules)) c.put_spelled.ensures

pub overflow_add-rest : goal.overflow_add-rest
overflow_add-rest c = omega (arith, inside (goal.at.overflow_add-rest c).Start (search rules))

pub slice_bounds-put_elided-end : goal.slice_bounds-put_elided-end
slice_bounds-put_elided-end c = sym (length-take-le _ _ (omega (arith, inside (goal.at.slice_bounds-put_elided-end c).Start (search rules))))

pub offset_bounds-groups-rest : goal.offset_bounds-groups-rest
offset_bounds-groups-rest c = omega (arith, inside (goal.at.offset_bounds-groups-rest c).Start (search rules))

pub slice_bounds-put_elided-count : goal.slice_bounds-put_elided-count
slice_bounds-put_elided-count c = inside (goal.at.slice_bounds-put_elided-count c).Start (search rules)

pub slice_bounds-put_elided-start : goal.slice_bounds-put_elided-start
slice_bounds-put_elided-start c = inside (goal.at.slice_bounds-put_elided-start c).Start (search rules)

pub put_elided-requires : goal.put_elided-requires
put_elided-requires c =
    let p = c.requires in
    rw (short_form p.0 (search rules)) p.1

pub returns : goal.returns
returns c =
    rw (← short_form c.requires.0 (search rules)) c.put_elided.ensures
