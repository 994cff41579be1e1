-- The output line of an answer, written to a lent buffer (S12.2).
use Rattle.std.specs.Prelude.{ℕ, ◌+◌, ◌*◌, ◌≡◌, cond, List, [], ltb, length}
use Rattle.registry.specs.Limits.{most_records}
use Rattle.output.specs.Writing.{Written}
use Rattle.answers.specs.Reply.{Reply, list_after}
use Rattle.calls.specs.Calls.{answer_of}
use Rattle.line_text.specs.Line.{line_text}

-- bytes that every line fits into: 4 + 4,096 numbers of at most 10 digits, a space or a line feed after each
abbrev pub longest_line : ℕ
longest_line = (4 + most_records) * (10 + 1)

-- The reply to a path for a list that is never too short, and its line.
abbrev pub reply_to : List ℕ → List ℕ → Reply
reply_to path image = answer_of path image most_records

abbrev pub line_of : List ℕ → List ℕ → List ℕ
line_of path image = line_text (reply_to path image)

-- What is written to a buffer of so many bytes: the line, if every line fits, else nothing.
unfoldable pub text_in : Reply → ℕ → List ℕ
text_in r size = cond (ltb size longest_line) [] (line_text r)

-- What a call that writes a reply's line to the start of a buffer promises: the number of bytes written, the whole buffer and the whole list afterwards.
pub record Lined (reply : Reply) (list list' out out' : List ℕ) (n : ℕ) : Type 0 where
  pub text : Written (text_in reply (length out)) out out' n
  pub records : list' ≡ list_after reply list
