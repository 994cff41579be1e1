-- What was collected, reported.
use Rattle.std.specs.Prelude.{Result}
use Prim.Native.Nat.{ℕ, ◌≤◌}
use mathlib.Core.Path.{◌≡◌, sym}
use mathlib.Core.List.{List}
use native.Mathlib.Omega.{arith}
use lib.ListN.{length, take}
use lib.Seq.{length-take-le}
use Rattle.registry.specs.Limits.{most_records}
use Rattle.output.specs.Listing.{Reported, Collected}
use Rattle.output.specs.declared.NoRoom.{NoRoom}

pub same-reported : {x y list after : List ℕ} {r : Result ℕ NoRoom} → x ≡ y → Reported x list after r → Reported y list after r
same-reported e p = rw (← e) p

module _ {hits found : List ℕ} {n : ℕ} (c : Collected hits found n) where
  pub in_hits : n ≤ length hits
  in_hits = omega (arith, c.full, c.few)

  pub as_many : n ≡ length (take n hits)
  as_many = sym (length-take-le n hits in_hits)

  pub few-reported : length (take n hits) ≤ most_records
  few-reported = let k = as_many in omega (arith, c.few)

  pub reported : {list after : List ℕ} {r : Result ℕ NoRoom} → Reported (take n hits) list after r → Reported found list after r
  reported p = same-reported c.same p
