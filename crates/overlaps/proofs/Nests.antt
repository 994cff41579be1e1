-- The addresses of a block where the code reads them.
use mathlib.Core.Path.{◌≡◌, sym, ap}
use mathlib.Core.List.{List}
use Prim.Native.Nat.{ℕ, ◌+◌, ◌*◌, ◌≤◌}
use native.Mathlib.Omega.{arith}
use lib.ListN.{length}
use Rattle.registry.specs.Tags.{width_of}
use Rattle.address.specs.Ranges.{Range}
use Rattle.octets.specs.Positions.{number_in}
use Rattle.records.specs.Record.{first_of, last_of}
use Rattle.merged.specs.Held.{parsed_from, Recorded}
use Rattle.merged.proofs.Known.{range-read, range-room}

module _ (s : List ℕ) (k : Recorded s) (h : (parsed_from s).tag ≤ 18) (w : ℕ) (e : w ≡ width_of (parsed_from s).tag) where
  pub first_read : number_in s 6 w ≡ first_of (parsed_from s)
  first_read = rw e (sym (ap (λ (x : Range). x.first) (range-read s k h)))

  pub last-read : number_in s (6 + w) w ≡ last_of (parsed_from s)
  last-read = rw e (sym (ap (λ (x : Range). x.last) (range-read s k h)))

  pub room-read : 6 + 2 * w ≤ length s
  room-read = omega (arith, e, range-room s k h)
