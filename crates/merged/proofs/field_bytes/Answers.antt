-- The part is what the definition takes of the field that stands there (Fields.antt).
use native.Mathlib.Omega.{arith}
use Rattle.merged.proofs.Fields.{bytes_inside, bytes-short, bytes_whole}
use Rattle.merged.proofs.field_bytes.Goals as goal

pub slice_bounds-result-count : goal.slice_bounds-result-count
slice_bounds-result-count c = let i = bytes_inside _ _ _ c.step_at.ensures _ c.in-Some.is in omega (arith, i.after, i.forward)

pub slice_bounds-result-start : goal.slice_bounds-result-start
slice_bounds-result-start c = let i = bytes_inside _ _ _ c.step_at.ensures _ c.in-Some.is in omega (arith, i.after, i.forward)

pub slice_bounds-result-end : goal.slice_bounds-result-end
slice_bounds-result-end c = let i = bytes_inside _ _ _ c.step_at.ensures _ c.in-Some.is in omega (arith, i.within)

pub returns-in-Some : goal.returns-in-Some
returns-in-Some c = bytes_whole _ _ _ c.step_at.ensures _ c.in-Some.is

pub returns-in-None : goal.returns-in-None
returns-in-None c = bytes-short _ _ _ c.step_at.ensures c.in-None.is
