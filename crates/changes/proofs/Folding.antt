-- What is written is accepted, two files in turn are their joining, and an empty file changes nothing.
use mathlib.Core.Path.{◌≡◌, refl, sym, ◌∙◌, ap}
use mathlib.Core.Bool.{Bool, true, false, cond}
use mathlib.Core.List.{List, [], ◌++◌}
use Prim.Native.Nat.{ℕ, ◌≤◌}
use borrow.Author.Tests.{le-leb}
use native.Mathlib.Omega.{arith}
use lib.Dec.{leb}
use lib.ListN.{length, take, drop, length-append}
use Rattle.records.specs.Record.{Record}
use Rattle.image.specs.Image.{Image, sound, defective, image_of}
use Rattle.rows.specs.Entry.{Entry, entries_of, parsed_of, row_of}
use Rattle.rows.specs.Good.{AllGood}
use Rattle.image.proofs.Soundness.{opens}
use Rattle.rows.proofs.Images.{start_of, entries-good, entries_are, records_are, entries_again}
use Rattle.changes.specs.Limits.{most_changes}
use Rattle.changes.specs.Change.{Changed, done, refused_at, later, changes_from, changes_of}
use Rattle.changes.specs.Fold.{bad_change, no_room, fits, finished, after_changes, after_image, fold_of, Folds, Accepting, Joining, Unchanged}
use Rattle.changes.proofs.Files.{joined}
use Rattle.changes.proofs.Applying.{kept-by-all, good-step}

-- a fold of a sound image with a file that is not too long
module _ (image : List ℕ) (records : List Record) (e : image_of image ≡ sound records) where
  abbrev pub before : List Entry
  before = entries_of records (drop 4 image)

  within-limit : (changes : List ℕ) (room : ℕ) → length changes ≤ most_changes → fold_of image changes room ≡ after_changes (take 4 image) room (changes_of before changes)
  unfolding fold_of
  within-limit changes room h =
      ap (after_image image changes room) e
      ∙ ap (λ (t : Bool). cond t (after_changes (take 4 image) room (changes_of before changes)) (bad_change 0)) (le-leb (length changes) most_changes h)

  pub changed-good : (changes : List ℕ) (after : List Entry) → changes_of before changes ≡ done after → AllGood after
  unfolding changes_of
  changed-good changes after k = kept-by-all AllGood good-step (length changes) before after changes k (entries-good image records e)

pub accepting : Accepting
unfolding fold_of
accepting image changes room e = by-image (image_of image) refl e
  where
    by_final : (records : List Record) (after : List Entry) → image_of image ≡ sound records → changes_of (entries_of records (drop 4 image)) changes ≡ done after
        → (i : Image) → image_of (take 4 image ++ row_of after) ≡ i → (finished (take 4 image ++ row_of after) room i).reason ≡ 0
        → Folds image changes (finished (take 4 image ++ row_of after) room i).written
    by_final records after x y (defective d p) z k = absurd (omega arith)
    by_final records after x y (sound found) z k = by-room (leb (length (take 4 image ++ row_of after)) room) k
      where
        by-room : (u : Bool) → (cond u (fits (take 4 image ++ row_of after)) (no_room (length (take 4 image ++ row_of after)))).reason ≡ 0
            → Folds image changes (cond u (fits (take 4 image ++ row_of after)) (no_room (length (take 4 image ++ row_of after)))).written
        by-room false l = absurd (omega arith)
        by-room true l =
            let f : found ≡ parsed_of after = records_are image after (changed-good image records x changes after y) (opens image records x).started found z in
            record { before = records; after = after; read = x; changed = y; bytes = refl; accepted = z ∙ ap sound f }

    by-changed : (records : List Record) → image_of image ≡ sound records → (c : Changed) → changes_of (entries_of records (drop 4 image)) changes ≡ c
        → (after_changes (take 4 image) room c).reason ≡ 0 → Folds image changes (after_changes (take 4 image) room c).written
    by-changed records x (refused_at offset) y k = absurd (omega arith)
    by-changed records x (done after) y k = by_final records after x y (image_of (take 4 image ++ row_of after)) refl k

    by_length : (records : List Record) → image_of image ≡ sound records → (t : Bool)
        → (cond t (after_changes (take 4 image) room (changes_of (entries_of records (drop 4 image)) changes)) (bad_change 0)).reason ≡ 0
        → Folds image changes (cond t (after_changes (take 4 image) room (changes_of (entries_of records (drop 4 image)) changes)) (bad_change 0)).written
    by_length records x true k = by-changed records x (changes_of (entries_of records (drop 4 image)) changes) refl k
    by_length records x false k = absurd (omega arith)

    by-image : (i : Image) → image_of image ≡ i → (after_image image changes room i).reason ≡ 0 → Folds image changes (after_image image changes room i).written
    by-image (defective d p) x k = absurd (omega arith)
    by-image (sound records) x k = by_length records x (leb (length changes) most_changes) k

-- the second file applied to what the first wrote
second-fold : (image first out second : List ℕ) (room : ℕ) (f : Folds image first out) → length second ≤ most_changes
    → fold_of out second room ≡ after_changes (take 4 image) room (changes_of f.after second)
second-fold image first out second room f h =
    within-limit out (parsed_of f.after) f.accepted second room h
    ∙ rw f.bytes
    (rw (
      start_of image (row_of f.after) (opens image f.before f.read).started,
      entries_again image f.after (changed-good image f.before f.read first f.after f.changed) (opens image f.before f.read).started,
    ))

-- where the changes are accepted, no offset moves
later-accepted : (start : List ℕ) (room n : ℕ) (c : Changed) → (after_changes start room c).reason ≡ 0 → after_changes start room (later n c) ≡ after_changes start room c
later-accepted start room n (done es) e = refl
later-accepted start room n (refused_at offset) e = absurd (omega arith)

pub joining : Joining
joining image first second middle room e k h =
    let f = accepting image first middle e in
    let g = second-fold image first (fold_of image first middle).written second room f (omega (arith, length-append first second)) in
    within-limit image f.before f.read (first ++ second) room h
    ∙ rw (joined (entries_of f.before (drop 4 image)) f.after first second f.changed)
    (later-accepted (take 4 image) room (length first) (changes_of f.after second) (rw g at k) ∙ sym g)

pub unchanged : Unchanged
unfolding changes_of changes_from
unchanged image room records e h =
    within-limit image records e [] room (omega arith)
    ∙ rw (entries_are image records e, e, le-leb (length image) room h)
