-- The field, its tag and its contents (Changes.antt).
use mathlib.Core.Path.{subst}
use mathlib.Core.List.{List}
use Prim.Native.Nat.{ℕ}
use native.Mathlib.Omega.{arith}
use lib.ListN.{length}
use Rattle.fields.specs.Slices.{part_slice}
use Rattle.fields.specs.Positions.{FieldInside}
use Rattle.one_change.specs.Read.{Addition, Removal}
use Rattle.merged.proofs.Fields.{bytes_inside}
use Rattle.one_change.proofs.Changes.{part-short, change-short, change-other, change-add, change-remove}
use Rattle.one_change.proofs.change_at.Goals as goal
use Rattle.one_change.proofs.change_at.Goals.{In-Some}

inside : (c : In-Some) → FieldInside c.args.at (length c.args.changes.now) c.in-Some.field-0.start c.in-Some.field-0.end
inside c = bytes_inside _ _ _ c.step_at.ensures _ c.in-Some.is

pub returns-in_default-clause-read : goal.returns-in_default-clause-read
returns-in_default-clause-read c = change-short _ _ c.requires.0 _ c.step_at.ensures c.in_default.is

pub slice_bounds-contents-count : goal.slice_bounds-contents-count
slice_bounds-contents-count c = (inside (goal.at.slice_bounds-contents-count c).In-Some).forward

pub slice_bounds-contents-start : goal.slice_bounds-contents-start
slice_bounds-contents-start c = (inside (goal.at.slice_bounds-contents-start c).In-Some).forward

pub slice_bounds-contents-end : goal.slice_bounds-contents-end
slice_bounds-contents-end c = (inside (goal.at.slice_bounds-contents-end c).In-Some).within

pub good_record-requires : goal.good_record-requires
good_record-requires c =
    (part-short c.args.changes.now _ _ c.requires.1, c.requires.2)

pub returns-in-48-clause-read : goal.returns-in-48-clause-read
returns-in-48-clause-read c =
    let i = inside (goal.at.returns-in-48-clause-read c).In-Some in
    rw c.then_some.ensures (change-add _ _ c.requires.0 _ c.step_at.ensures _ c.in-Some.is c.in-48.is _ (subst (λ (x : List ℕ). Addition x c.good_record.result) (part_slice _ _ _ i.forward) c.good_record.ensures.judged))

pub returns-in-49-clause-read : goal.returns-in-49-clause-read
returns-in-49-clause-read c =
    let i = inside (goal.at.returns-in-49-clause-read c).In-Some in
    rw c.then_some-in-49.ensures (change-remove _ _ c.requires.0 _ c.step_at.ensures _ c.in-Some.is c.in-49.is _ (subst (λ (x : List ℕ). Removal x c.good_removal.result) (part_slice _ _ _ i.forward) c.good_removal.ensures))

pub returns-in_default-tag-clause-read : goal.returns-in_default-tag-clause-read
returns-in_default-tag-clause-read c =
    change-other _ _ c.requires.0 _ c.step_at.ensures _ c.in-Some.is (omega arith) (omega arith)
