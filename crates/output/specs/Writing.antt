-- Bytes or numbers written to the start of a lent buffer: what was written, then what was there; where there is no room, nothing.
use Rattle.std.specs.Prelude.{ℕ, cond, ◌≡◌, List, ◌++◌, ltb, length, drop, Result, Ok, Err}
use Rattle.output.specs.declared.WriteError.{WriteError}
use Rattle.output.specs.declared.WriteError.TheVariants.{NoRoom}

-- The buffer afterwards: the text, then what it held there before.
abbrev pub over : (text before : List ℕ) → List ℕ
over text before = text ++ drop (length text) before

-- The buffer after a call that writes all or nothing: where it has less room than the text needs, all that it held.
abbrev pub if_room : (text before : List ℕ) → List ℕ
if_room text before = cond (ltb (length before) (length text)) before (over text before)

-- What such a call tells: no room where there is less than the text needs; the count is of the things in it, needed or written.
abbrev pub counted_of : (text : List ℕ) (count room : ℕ) → Result ℕ WriteError
counted_of text count room = cond (ltb room (length text)) (Err (NoRoom count)) (Ok count)

-- Serves contracts and proofs from here on: n of them are written, and the rest is unchanged
pub record Written (written before after : List ℕ) (n : ℕ) : Type 0 where
  pub size : n ≡ length written
  pub is : after ≡ written ++ drop n before

-- part by part: what is written so far, followed by what is left, is the whole
pub record Reached (whole rest before after : List ℕ) (at : ℕ) : Type 0 where
  pub front : List ℕ
  pub joined : whole ≡ front ++ rest
  pub written : Written front before after at
