-- What holds of every batch (S2.5): each answer is that of the first call. Proved in proofs/Theorem.antt.
use Rattle.std.specs.Prelude.{ℕ, suc, ◌+◌, ◌-◌, ◌*◌, ◌≤◌, ◌<◌, ◌≡◌, List, [], ◌++◌, length, take, drop, get_or}
use Rattle.registry.specs.Limits.{most_paths}
use Rattle.image.specs.Image.{image_of}
use Rattle.answers.specs.Reply.{line, list_after}
use Rattle.calls.specs.Calls.{answer_of}
use Rattle.batches.specs.Batch.{paths_of, lines, answers_in, batch_of}

-- the numbers of the answers before the i-th, and of those after it
abbrev pub earlier : List ℕ → List ℕ → ℕ → ℕ → List ℕ
earlier text image room i = lines (take i (answers_in (image_of image) (paths_of text) room))

abbrev pub later : List ℕ → List ℕ → ℕ → ℕ → List ℕ
later text image room i = lines (drop (suc i) (answers_in (image_of image) (paths_of text) room))

-- Between them stands that of the first call for the i-th path, with the places that the earlier ones and its own four numbers leave.
pub record AnswerAt (text image : List ℕ) (room i : ℕ) : Type 0 where
  pub fits : length (earlier text image room i) + 4 ≤ room
  pub stands :
      (batch_of text image room).records
      ≡ earlier text image room i
      ++ (line (answer_of (get_or (paths_of text) i []) image (room - length (earlier text image room i) - 4)) ++ later text image room i)

pub record Batches : Type 0 where
  -- Each answer in the list is that of a single call.
  pub each : (text image : List ℕ) (room i : ℕ) → i < (batch_of text image room).count → AnswerAt text image room i
  -- Paths are left only where fewer than four places are.
  pub stopped :
      (text image : List ℕ) (room : ℕ) → (batch_of text image room).reason ≡ 0 → (batch_of text image room).count < length (paths_of text)
      → room < length (batch_of text image room).records + 4
  -- A list of 4,100 places a path is never too short: every path is answered, and none by reason 9.
  pub enough :
      (text image : List ℕ) (room : ℕ) → 4100 * length (paths_of text) ≤ room → (batch_of text image room).reason ≡ 0
      → (batch_of text image room).count ≡ length (paths_of text)
  pub enough-each :
      (text image : List ℕ) (room i : ℕ) → 4100 * length (paths_of text) ≤ room → i < (batch_of text image room).count
      → (answer_of (get_or (paths_of text) i []) image (room - length (earlier text image room i) - 4)).reason ≡ 9 → ⊥
  pub few : (text image : List ℕ) (room : ℕ) → (batch_of text image room).count ≤ most_paths
  -- The list afterwards is as long as before.
  pub list_length : (text image list : List ℕ) → length (list_after (batch_of text image (length list)) list) ≡ length list
