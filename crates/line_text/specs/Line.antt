-- The text of an output line of the small program (S12.2).
use Rattle.std.specs.Prelude.{ℕ, ◌-◌, List, [], ◌∷◌, ◌++◌, map, length, take}
use Prim.Native.Char.{code}
use Rattle.octets.specs.Split.{split}
use Rattle.numeral.specs.Numeral.{digits_from}
use Rattle.numeral.specs.Digits as Digits
use Rattle.answers.specs.Reply.{Reply, line}

-- numbers as decimals, each after a space
abbrev pub following : List ℕ → List ℕ
following = Digits.following (code " ") 10

-- numbers as decimals, separated by one space
abbrev pub spaced : List ℕ → List ℕ
spaced = Digits.spelled (code " ") 10

-- "each output line is status, reason, kind, count and the record numbers, as `200 0 2 1 0`"
unfoldable pub line_text : Reply → List ℕ
line_text r = spaced (line r) ++ (code "\n" ∷ [])

-- The numbers of a line: the text before its line feed is cut at each space, and each piece read as a decimal.
unfoldable pub numbers_in : List ℕ → List ℕ
numbers_in text = map (digits_from 10 0) (split (code " ") (take (length text - 1) text))
