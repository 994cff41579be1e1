-- The call that writes the text of an address to a lent buffer (S2.9).
use Rattle.std.specs.Prelude.{ℕ, Bool, cond, ◌||◌, List, eqb, length, Result, Err}
use Rattle.output.specs.declared.WriteError.{WriteError}
use Rattle.output.specs.declared.WriteError.TheVariants.{Malformed}
use Rattle.output.specs.Writing.{if_room, counted_of}
use Rattle.ip_text.specs.Text.{text_of}

-- four bytes or sixteen
unfoldable pub is_address : List ℕ → Bool
is_address a = eqb (length a) 4 || eqb (length a) 16

-- How many bytes are written; any other length is malformed, and where there is less room than the text needs its bytes are needed.
unfoldable pub written_of : List ℕ → ℕ → Result ℕ WriteError
written_of a room = cond (is_address a) (counted_of (text_of a) (length (text_of a)) room) (Err Malformed)

-- The buffer afterwards: the text, then what it held there before; after a refusal all that it held.
unfoldable pub text_after : List ℕ → List ℕ → List ℕ
text_after a text = cond (is_address a) (if_room (text_of a) text) text
