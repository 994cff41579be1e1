-- The final image: what is answered, and the records that are written one after another.
use mathlib.Core.Path.{◌≡◌, refl, sym, ◌∙◌, ap}
use mathlib.Core.Bool.{true, cond}
use mathlib.Core.List.{List, ◌++◌}
use Prim.Native.Nat.{ℕ, ◌+◌, ◌≤◌, ◌<◌}
use native.Mathlib.Omega.{arith}
use borrow.Author.Tests.{le-leb, lt-leb}
use lib.Dec.{leb}
use lib.ListN.{length, take}
use Rattle.image.specs.Image.{starts_right, image_of}
use Rattle.image.specs.Checking.{verdict_of, numbers_in}
use Rattle.registry.specs.declared.Flaw.{Flaw}
use Rattle.std.specs.Prelude.{Result, Ok, Err}
use Rattle.image.proofs.Soundness.{is-sound, is-defective, verdict_sound, verdict_defective}
use Rattle.rows.specs.Entry.{Entry, row_of}
use Rattle.rows.proofs.Images.{length_of}
use Rattle.changes.specs.Fold.{no_room, fits, finished}
use Rattle.output.specs.Writing.{Written}
use Rattle.output.proofs.Writing.{written_over}
use Rattle.final_image.specs.Call.{folded_in, Gives}
use Rattle.final_image.specs.declared.FoldError.TheVariants.{NoRoom, Final}

-- The answers

module _ (out before : List ℕ) (v : Result ℕ Flaw) (e : numbers_in v ≡ verdict_of (image_of out)) where
  pub finish_bad : (flaw : Flaw) → v ≡ Err flaw → Gives (finished out (length before) (image_of out)) before before (Err (Final flaw))
  finish_bad flaw f = rw (is-defective (image_of out) _ _ (verdict_defective e f)) (record { numbers = refl; out = refl })

  module _ (n : ℕ) (f : v ≡ Ok n) (size : ℕ) (z : size ≡ length out) where
    result : finished out (length before) (image_of out) ≡ cond (leb (length out) (length before)) (fits out) (no_room (length out))
    result = ap (finished out (length before)) (is-sound (image_of out) n (verdict_sound e f))

    pub finish_full : length before < size → Gives (finished out (length before) (image_of out)) before before (Err (NoRoom size))
    finish_full h = rw (result, lt-leb (length out) (length before) (omega arith)) (record { numbers = ap (λ (k : ℕ). folded_in (Err (NoRoom k))) z; out = refl })

    pub finish_written : size ≤ length before → (after : List ℕ) (written : ℕ) → Written out before after written
        → Gives (finished out (length before) (image_of out)) before after (Ok written)
    finish_written h after written w =
        rw (result, le-leb (length out) (length before) (omega arith))
        (record { numbers = ap (λ (k : ℕ). folded_in (Ok k)) w.size; out = written_over w })

-- the start of an image and a row of so many bytes
pub image-size : (image : List ℕ) (es : List Entry) → starts_right image ≡ true → (size : ℕ) → size ≡ length (row_of es) → 4 + size ≡ length (take 4 image ++ row_of es)
image-size image es s size e = ap (λ (n : ℕ). 4 + n) e ∙ sym (length_of image (row_of es) s)
