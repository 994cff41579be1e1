use mathlib.Core.Path.{◌≡◌, refl, sym, ◌∙◌, ap, subst}
use mathlib.Core.List.{List}
use Prim.Native.Nat.{ℕ, ◌<◌}
use native.Mathlib.Omega.{arith}
use lib.ListN.{length, get_or}
use Rattle.placing.specs.Step.{nest_in}
use Rattle.merged.specs.Held.{parsed_from, Recorded}
use Rattle.merged.specs.Listed.{bytes_in}
use Rattle.overlaps.specs.Overlaps.{open_last}
use Rattle.merged.proofs.Known.{known}
use Rattle.overlaps.proofs.Scans.{scan-start, scan_on, scan_crossing, scan_depth, scan-room, open_blocks, whole, overlap_here, overlap_none}
use Rattle.overlaps.proofs.first_overlap.Goals as goal
use Rattle.overlaps.proofs.first_overlap.Goals.{After-nest_after, In-Some}

pub loop-i-init : goal.loop-i-init
loop-i-init c = scan-start _ _ refl

-- the number is one of a record
numbered : (c : After-nest_after) → (c.loop-i.i < c.args.records.now.count) × (c.loop-i.i < 4096)
numbered c = (omega (arith, c.loop-i-test.true, c.requires.2), omega (arith, c.loop-i-test.true, c.requires.1))

pub nest_after-requires : goal.nest_after-requires
nest_after-requires c =
    let e = c.record_at-r.ensures in
    let s = c.loop-i.invariant in
    let h : c.loop-i.i < c.args.records.now.count = omega (arith, c.loop-i-test.true, c.requires.2) in (
      scan-room c.requires.0 s h (omega (arith, c.loop-i-test.true, c.requires.1)),
      subst Recorded (sym e) (whole c.requires.0 s h),
      λ f b. open_blocks c.requires.0 s h (f ∙ ap (λ (s : List ℕ). (parsed_from s).tag) e) b,
    )

nested : (p : After-nest_after) → p.nest_after.result
    ≡ nest_in (open_last p.args.records.now p.loop-i.stack) p.loop-i.family (parsed_from (bytes_in p.args.records.now (get_or p.args.records.now.starts p.loop-i.i 0))) p.loop-i.depth
nested p = rw (← p.record_at-r.ensures) p.nest_after.ensures

deep : (d : In-Some) → d.in-Some.d < 4096
deep d =
    let p = (goal.at.offset_bounds-stack-d d).After-nest_after in
    scan_depth d.requires.0 d.loop-i.invariant (numbered p).0 (numbered p).1 _ (nested p) _ d.in-Some.is

pub offset_bounds-stack-d : goal.offset_bounds-stack-d
offset_bounds-stack-d c = omega (arith, deep (goal.at.offset_bounds-stack-d c).In-Some)

pub bounds-stack-d : goal.bounds-stack-d
bounds-stack-d c = omega (arith, deep (goal.at.bounds-stack-d c).In-Some)

pub overflow_add-depth : goal.overflow_add-depth
overflow_add-depth c = omega (arith, deep (goal.at.overflow_add-depth c).In-Some)

pub bounds-r-0 : goal.bounds-r-0
bounds-r-0 c =
    let w = known _ (whole c.requires.0 c.loop-i.invariant (numbered (goal.at.bounds-r-0 c).After-nest_after).0) in
    omega (arith, ap length c.record_at-r.ensures, w.long)

pub loop-i-preserved : goal.loop-i-preserved
loop-i-preserved c =
    let e = c.record_at-r.ensures in
    let p = (goal.at.loop-i-preserved c).After-nest_after in
    let n = numbered p in
    let w = known _ (whole c.requires.0 c.loop-i.invariant n.0) in
    scan_on c.requires.0 c.loop-i.invariant n.0 n.1 _ (nested p) _ c.in-Some.is _ (ap (λ (s : List ℕ). get_or s 0 0) e ∙ w.tag_is)

pub returns-in-None : goal.returns-in-None
returns-in-None c =
    let p = (goal.at.returns-in-None c).After-nest_after in
    overlap_here _ _ _ c.loop-i-test.true (scan_crossing c.requires.0 c.loop-i.invariant (numbered p).0 (numbered p).1 _ (nested p) c.in-None.is)

pub returns : goal.returns
returns c = overlap_none _ c.loop-i.invariant (omega arith)
