-- How many entries a range has, and how much room they need.
use Prim.Native.Nat.{ℕ, ◌+◌, ◌-◌, ◌*◌, ◌≤◌, ◌<◌}
use mathlib.Core.Bool.{Bool, true, false, cond}
use mathlib.Core.Path.{◌≡◌, refl}
use mathlib.Core.List.{List}
use native.Mathlib.Omega.{arith}
use native.Mathlib.Nat.{mul-le-mul_right}
use borrow.Author.Tests.{lt-ltb, le-ltb, ltb-true, ltb-false}
use lib.Dec.{ltb}
use lib.ListN.{length}
use Rattle.octets.specs.Positions.{Wide}
use Rattle.cidr.specs.Prefixes.{Prefix}
use Rattle.prefix_bytes.specs.Entry.{entries_of}
use Rattle.next_prefix.specs.Walked.{walked}
use Rattle.prefix_walk.specs.Entries.{Ordered}
use Rattle.prefix_walk.proofs.Few.{few}
use Rattle.std.specs.Prelude.{Ok, Err}
use Rattle.output.specs.declared.WriteError.{WriteError}
use Rattle.output.specs.declared.WriteError.TheVariants.{NoRoom}
use Rattle.prefixes.specs.Fitting.{fit_of}
use Rattle.prefix_bytes.proofs.Widths.{by_width, length-entries}

pub room_fits : {width : ℕ} → Wide width → (16 * width - 2) * (width + 1) < 18446744073709551616
room_fits w = by_width w (λ (k : ℕ). (16 * k - 2) * (k + 1) < 18446744073709551616) (omega arith) (omega arith)

module _ {width : ℕ} {first last : ℕ} (o : Ordered width first last) where
  -- counted
  module _ {n : ℕ} (counted : n ≡ length (walked first last)) where
    pub product_fits : n * (width + 1) < 18446744073709551616
    product_fits = rw counted (omega (arith, room_fits o.wide, mul-le-mul_right (width + 1) (few o)))

    size : length (entries_of width (walked first last)) ≡ n * (width + 1)
    size = rw counted (length-entries width (walked first last))

    pub enough : {bytes : ℕ} → n * (width + 1) ≤ bytes → Ok (tt {0}) ≡ fit_of width bytes (walked first last)
    enough {bytes} h = rw (size, le-ltb bytes (n * (width + 1)) h)

    pub too_short : {bytes : ℕ} → bytes < n * (width + 1) → Err (NoRoom n) ≡ fit_of width bytes (walked first last)
    too_short {bytes} h = rw (size, lt-ltb bytes (n * (width + 1)) h, counted)

  pub ample : {bytes : ℕ} → (16 * width - 2) * (width + 1) ≤ bytes → Ok (tt {0}) ≡ fit_of width bytes (walked first last)
  ample h = enough refl (omega (arith, mul-le-mul_right (width + 1) (few o)))

-- what the check tells
module _ (width room : ℕ) (ps : List Prefix) where
  pub told-short : {e : WriteError} → Err e ≡ fit_of width room ps → (room < length (entries_of width ps)) × (e ≡ NoRoom (length ps))
  told-short {e} k = go (ltb room (length (entries_of width ps))) refl k
    where
      go : (t : Bool) → ltb room (length (entries_of width ps)) ≡ t → Err e ≡ cond t (Err (NoRoom (length ps))) (Ok (tt {0})) → (room < length (entries_of width ps)) × (e ≡ NoRoom (length ps))
      go true p q = (ltb-true _ _ p, cc)
      go false p q = let z : ◌≡◌ {A = ℕ} 0 1 = cc in absurd (omega arith)

  pub told-enough : Ok (tt {0}) ≡ fit_of width room ps → length (entries_of width ps) ≤ room
  told-enough e = go (ltb room (length (entries_of width ps))) refl e
    where
      go : (t : Bool) → ltb room (length (entries_of width ps)) ≡ t → Ok (tt {0}) ≡ cond t (Err (NoRoom (length ps))) (Ok (tt {0})) → length (entries_of width ps) ≤ room
      go true p q = let z : ◌≡◌ {A = ℕ} 0 1 = cc in absurd (omega arith)
      go false p q = ltb-false _ _ p
