-- An image is its start of four bytes and the row of its entries.
use mathlib.Core.Path.{◌≡◌, ◌∙◌, ap}
use mathlib.Core.Bool.{true, false≢true}
use mathlib.Core.List.{List, [], ◌∷◌, ◌++◌}
use Prim.Native.Nat.{ℕ, suc, ◌+◌, ◌≤◌}
use borrow.Author.Tests.{le-leb}
use native.Mathlib.Omega.{arith}
use lib.ListN.{length, take, drop, length-append, take-append-drop}
use lib.Seq.{length-take-le, take_at, drop_at}
use Rattle.records.specs.Record.{Record}
use Rattle.image.specs.Image.{sound, image_from, starts_right, image_of}
use Rattle.image.proofs.Soundness.{opens}
use Rattle.image.proofs.Walk.{start-length}
use Rattle.rows.specs.Entry.{Entry, entries_of, parsed_of, row_of}
use Rattle.rows.specs.Good.{AllGood}
use Rattle.rows.proofs.Rows.{Reads, reads, accepted-row, entries-row}

-- the start alone decides whether an image starts right
pub start-kept : (s row : List ℕ) → starts_right s ≡ true → starts_right (take 4 s ++ row) ≡ true
unfolding starts_right
start-kept [] row e = absurd (false≢true e)
start-kept (a ∷ []) row e = absurd (false≢true e)
start-kept (a ∷ b ∷ []) row e = absurd (false≢true e)
start-kept (a ∷ b ∷ c ∷ []) row e = absurd (false≢true e)
start-kept (a ∷ b ∷ c ∷ d ∷ s) row e =
    rw (le-leb 4 (suc (suc (suc (suc (length row))))) (omega arith)) (rw (le-leb 4 (suc (suc (suc (suc (length s))))) (omega arith)) at e)

-- an image with a row put after its start
module _ (s row : List ℕ) (e : starts_right s ≡ true) where
  four : length (take 4 s) ≡ 4
  four = length-take-le 4 s (start-length s e)

  pub start_of : take 4 (take 4 s ++ row) ≡ take 4 s
  start_of = take_at (take 4 s) row 4 four

  pub row_of_lem : drop 4 (take 4 s ++ row) ≡ row
  row_of_lem = drop_at (take 4 s) row 4 four

  pub length_of : length (take 4 s ++ row) ≡ 4 + length row
  length_of = length-append (take 4 s) row ∙ ap (λ (n : ℕ). n + length row) four

  pub image_of_lem : 4 + length row ≤ 262144 → image_of (take 4 s ++ row) ≡ image_from 4096 [] row
  unfolding image_of
  image_of_lem h = rw (length_of, le-leb (4 + length row) 262144 h, start-kept s row e, row_of_lem)

module _ (s : List ℕ) (records : List Record) (e : image_of s ≡ sound records) where
  row_read : Reads (drop 4 s) [] records
  row_read = reads 4096 [] records (drop 4 s) (opens s records e).read

  -- its entries stand, and it is its start and their row
  pub entries-good : AllGood (entries_of records (drop 4 s))
  entries-good = rw row_read.all row_read.stand

  pub entries_are : take 4 s ++ row_of (entries_of records (drop 4 s)) ≡ s
  entries_are = rw (row_read.all, row_read.row) (take-append-drop 4 s)

-- an accepted image made of the start and a row of entries has these entries
module _ (s : List ℕ) (es : List Entry) (k : AllGood es) (e : starts_right s ≡ true) where
  pub records_are : (records : List Record) → image_of (take 4 s ++ row_of es) ≡ sound records → records ≡ parsed_of es
  records_are records h =
      accepted-row 4096 [] records es k (rw (row_of_lem s (row_of es) e) at (opens (take 4 s ++ row_of es) records h).read)

  pub entries_again : entries_of (parsed_of es) (drop 4 (take 4 s ++ row_of es)) ≡ es
  entries_again = rw (row_of_lem s (row_of es) e) (entries-row es k)
