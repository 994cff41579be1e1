-- The records that are left, one by one.
use mathlib.Core.Path.{◌≡◌}
use mathlib.Core.List.{List, []}
use Prim.Native.Nat.{ℕ, ◌+◌, ◌≤◌, ◌<◌}
use native.Mathlib.Omega.{arith}
use native.Mathlib.Numerals.{add-one}
use lib.ListN.{length, get_or, take, drop, length-take, drop_of_length-le}
use lib.Seq.{drop-cons, get_or-take}
use Rattle.rows.specs.Entry.{row_of}
use Rattle.merged.specs.Held.{bytes_at, entries_at}
use Rattle.output.proofs.Writing.{Parted}

module _ (image changes index : List ℕ) (n : ℕ) (h : n ≤ length index) {i : ℕ} where
  pub next_record : i < n
      → Parted (row_of (entries_at image changes (drop i (take n index)))) (bytes_at image changes (get_or index i 0)) (row_of (entries_at image changes (drop (i + 1) (take n index))))
  unfolding row_of
  next_record l =
      let inside : i < length (take n index) = omega (arith, length-take n index) in
      record { is = rw (add-one i, drop-cons (take n index) i 0 inside, get_or-take n index i 0 l) }

  pub no_record : n ≤ i → row_of (entries_at image changes (drop i (take n index))) ≡ []
  unfolding row_of
  no_record l =
      let all : length (take n index) ≤ i = omega (arith, length-take n index) in
      rw (drop_of_length-le (take n index) all)
