-- Serves contracts and proofs. The answers of a batch, written to the list one after another.
use Rattle.std.specs.Prelude.{ℕ, ◌≡◌, List, length}
use Rattle.output.specs.Writing.{over}
use Rattle.image.specs.Image.{Image}
use Rattle.batches.specs.Batch.{lines, answers_in}

-- so many paths are answered, and the rest of the list is unchanged
pub record Answering (paths : List (List ℕ)) (image : Image) (before after : List ℕ) (n : ℕ) : Type 0 where
  pub count : n ≡ length (answers_in image paths (length before))
  pub list : after ≡ over (lines (answers_in image paths (length before))) before
