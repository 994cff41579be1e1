-- The limits of a change file.
use Rattle.std.specs.Prelude.{ℕ}

-- S4.8: at most 65,536 bytes in a change file
abbrev pub most_changes : ℕ
most_changes = 65536

-- the records of an image and those that such a file adds, each by 12 bytes or more: 4,096 and 5,461 are below it
abbrev pub most_entries : ℕ
most_entries = 9600
