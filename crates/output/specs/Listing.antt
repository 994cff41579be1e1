-- Serves contracts and proofs. How record numbers are reported to a lent list (S3.2, reasons 9 and 0; S3.5).
use Rattle.std.specs.Prelude.{ℕ, ◌≤◌, cond, ◌≡◌, List, Result, Ok, Err, ltb, length, take}
use Rattle.registry.specs.Limits.{most_records}
use Rattle.output.specs.declared.NoRoom.{NoRoom}
use Rattle.output.specs.Writing.{if_room}

-- the reason why nothing is reported: so many places are needed
abbrev pub no_room : ℕ → NoRoom
no_room needed = record { needed = needed }

-- Whether the list has fewer places than there are records to report. The count is how many there are, also where they do not fit.
unfoldable pub listed_of : List ℕ → ℕ → Result ℕ NoRoom
listed_of found room = cond (ltb room (length found)) (Err (no_room (length found))) (Ok (length found))

-- The list afterwards: the first count places hold the record numbers, the rest are unchanged; where they do not fit all of it is.
unfoldable pub list_afterwards : List ℕ → List ℕ → List ℕ
list_afterwards = if_room

-- What a call that reports the record numbers found promises: its answer, and the whole list afterwards.
pub record Reported (found list after : List ℕ) (r : Result ℕ NoRoom) : Type 0 where
  pub answer : r ≡ listed_of found (length list)
  pub written : after ≡ list_afterwards found list

-- The record numbers found, in the first n places of an array.
pub record Collected (hits found : List ℕ) (n : ℕ) : Type 0 where
  pub full : length hits ≡ most_records
  pub few : n ≤ most_records
  pub same : take n hits ≡ found
