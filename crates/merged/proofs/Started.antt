-- The index of a sound image holds its records.
use mathlib.Core.Path.{◌≡◌, ap, ◌∙◌}
use mathlib.Core.List.{List}
use Prim.Native.Nat.{ℕ}
use native.Mathlib.Omega.{arith}
use lib.ListN.{length, take, drop}
use Rattle.image.specs.Image.{sound, image_of}
use Rattle.image.specs.Part.{records_of}
use Rattle.image.specs.Index.{Indexed}
use Rattle.image.proofs.Soundness.{is-sound, few-records}
use Rattle.rows.specs.Entry.{entries_of}
use Rattle.rows.proofs.Images.{entries-good}
use Rattle.rows.proofs.Rows.{parsed-entries}
use Rattle.rows.proofs.Ordering.{sound-ordered}
use Rattle.changes.specs.Limits.{most_entries}
use Rattle.merged.specs.Held.{entries_at, Held, Merged}
use Rattle.merged.proofs.Rows.{index_entries}

pub is_read : {image starts : List ℕ} {count : ℕ} → Indexed image count starts → image_of image ≡ sound (records_of (image_of image))
is_read {image} {starts} {count} x = is-sound (image_of image) count x.sound

module _ {image starts : List ℕ} {count : ℕ} (changes index : List ℕ) (x : Indexed image count starts) (w : take count index ≡ take count starts) where
  pub before-changes : entries_at image changes (take count index) ≡ entries_of (records_of (image_of image)) (drop 4 image)
  before-changes = ap (entries_at image changes) w ∙ index_entries image starts count x changes

  index_held : Held image changes (take count index)
  index_held = record {
    good = rw before-changes (entries-good image (records_of (image_of image)) (is_read x));
    ordered = rw (before-changes, parsed-entries (records_of (image_of image)) (drop 4 image)) (sound-ordered image (records_of (image_of image)) (is_read x));
  }

  pub index_merged : length index ≡ most_entries → Merged image changes index count
  index_merged f = record { full = f; few = omega (arith, few-records _ _ x.sound); held = index_held }
