-- The changes applied, and the final image (Finals.antt).
use mathlib.Core.Path.{ap, ◌∙◌, ◌≡◌, subst}
use mathlib.Core.List.{List, ◌++◌}
use Prim.Native.Nat.{ℕ}
use lib.ListN.{take, length}
use native.Mathlib.Omega.{arith}
use Rattle.image.specs.Image.{starts_right}
use Rattle.image.proofs.Soundness.{opens, few_bytes}
use Rattle.rows.specs.Entry.{row_of}
use Rattle.merged.specs.Listed.{listed}
use Rattle.merged.proofs.Started.{is_read}
use Rattle.final_image.specs.Call.{Finished}
use Rattle.fold.proofs.Finals.{fold-refused, fold-finished}
use Rattle.fold.proofs.fold_sound.Goals as goal
use Rattle.fold.proofs.fold_sound.Goals.{In-Ok}

-- the files are those that were handed in
own_image : (c : In-Ok) → c.changed.new.records.image.now ≡ c.args.image.now
own_image c = ap (λ b. b.now) c.in-Ok.ensures.same.image

own_changes : (c : In-Ok) → c.changed.new.records.changes.now ≡ c.args.changes.now
own_changes c = ap (λ b. b.now) c.in-Ok.ensures.same.changes

pub overflow_cast-result : goal.overflow_cast-result
overflow_cast-result c = omega (arith, c.in-Err.ensures.changed.1)

pub returns-in-Err : goal.returns-in-Err
returns-in-Err c = fold-refused _ _ _ (is_read c.requires) _ c.in-Err.ensures.changed.0

pub finish-requires : goal.finish-requires
finish-requires c =
    let p = (goal.at.finish-requires c).In-Ok in
    let z = c.in-Ok.ensures.changed in
    let x = c.requires in (
      z.1,
      ap starts_right (own_image p) ∙ (opens _ _ (is_read x)).started,
      omega (arith, ap length (own_image p), few_bytes _ _ x.sound),
      omega (arith, ap length (own_changes p), z.2),
    )

pub returns-in-Ok : goal.returns-in-Ok
returns-in-Ok c =
    let p = (goal.at.returns-in-Ok c).In-Ok in
    fold-finished _ _ _ (is_read c.requires) (listed c.changed.new.records) c.in-Ok.ensures.changed.0 _ _
    (subst (λ (s : List ℕ). Finished (take 4 s ++ row_of (listed c.changed.new.records)) c.args.out.now c.finish.new.out c.finish.result) (own_image p) c.finish.ensures)
