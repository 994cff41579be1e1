-- Serves contracts and proofs. The answer of one path of a batch, written to the front of a list.
use Rattle.std.specs.Prelude.{ℕ, ◌-◌, List, length}
use Rattle.image.specs.Image.{Image}
use Rattle.output.specs.Writing.{Written}
use Rattle.answers.specs.Reply.{line}
use Rattle.calls.specs.Calls.{answer_in}

-- its four numbers and its record numbers, for which there are the places after the first four
abbrev pub LineWritten : List ℕ → Image → List ℕ → List ℕ → ℕ → Type 0
LineWritten path image before after n = Written (line (answer_in path image (length before - 4))) before after n
