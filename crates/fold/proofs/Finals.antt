-- The answers of the call.
use mathlib.Core.Path.{◌≡◌, refl, ◌∙◌, ap}
use mathlib.Core.Bool.{Bool, true, false, cond}
use mathlib.Core.List.{List, ◌++◌}
use Prim.Native.Nat.{ℕ}
use lib.Dec.{leb}
use lib.ListN.{length, take, drop}
use Rattle.records.specs.Record.{Record}
use Rattle.image.specs.Image.{sound, image_of}
use Rattle.image.specs.Part.{records_of}
use Rattle.image.specs.Checking.{verdict_of, numbers_in}
use Rattle.registry.specs.declared.Flaw.{Flaw}
use Rattle.std.specs.Prelude.{Result, Err}
use Rattle.image.proofs.Soundness.{is-defective, verdict_defective}
use Rattle.rows.specs.Entry.{Entry, entries_of, row_of}
use Rattle.changes.specs.Limits.{most_changes}
use Rattle.changes.specs.Change.{Changed, done, refused_at, changes_of}
use Rattle.changes.specs.Fold.{bad_change, finished, after_changes, fold_of, after_image}
use Rattle.final_list.specs.Final.{changed_in}
use Rattle.final_image.specs.Call.{Gives}
use Rattle.final_image.specs.declared.FoldError.{FoldError}
use Rattle.final_image.specs.declared.FoldError.TheVariants as Errors

module _ (image changes before : List ℕ) where
  pub fold-defective : (v : Result ℕ Flaw) → numbers_in v ≡ verdict_of (image_of image) → (flaw : Flaw) → v ≡ Err flaw
      → Gives (fold_of image changes (length before)) before before (Err (Errors.Image flaw))
  unfolding fold_of
  fold-defective v e flaw f = rw (is-defective (image_of image) _ _ (verdict_defective e f)) (record { numbers = refl; out = refl })

  module _ (s : image_of image ≡ sound (records_of (image_of image))) (c : Changed) (e : changed_in image changes (records_of (image_of image)) ≡ c) where
    by_length : (records : List Record) (t : Bool)
        → cond t (after_changes (take 4 image) (length before) (changes_of (entries_of records (drop 4 image)) changes)) (bad_change 0)
        ≡ after_changes (take 4 image) (length before) (cond t (changes_of (entries_of records (drop 4 image)) changes) (refused_at 0))
    by_length records true = refl
    by_length records false = refl

    pub fold_is : fold_of image changes (length before) ≡ after_changes (take 4 image) (length before) c
    unfolding fold_of
    fold_is =
        ap (after_image image changes (length before)) s ∙ by_length (records_of (image_of image)) (leb (length changes) most_changes)
        ∙ ap (after_changes (take 4 image) (length before)) e

  pub fold-refused : image_of image ≡ sound (records_of (image_of image)) → (o : ℕ) → changed_in image changes (records_of (image_of image)) ≡ refused_at o
      → Gives (fold_of image changes (length before)) before before (Err (Errors.Change o))
  fold-refused s o e = rw (fold_is s (refused_at o) e) (record { numbers = refl; out = refl })

  pub fold-finished : image_of image ≡ sound (records_of (image_of image)) → (es : List Entry) → changed_in image changes (records_of (image_of image)) ≡ done es
      → (after : List ℕ) (r : Result ℕ FoldError) → Gives (finished (take 4 image ++ row_of es) (length before) (image_of (take 4 image ++ row_of es))) before after r
      → Gives (fold_of image changes (length before)) before after r
  fold-finished s es e after r a = rw (fold_is s (done es) e) a
