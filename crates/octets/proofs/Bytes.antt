-- What owning an array of n bytes tells: it has n elements, and each is a byte.
use mathlib.Core.Path.{◌≡◌}
use mathlib.Core.List.{List, [], ◌∷◌}
use Prim.Native.Nat.{ℕ, zero, suc}
use native.Mathlib.Nat.{le_of_suc-le-suc, not-suc-le-zero}
use mir.Syntax.{w8}
use mir.Val.{Val}
use denote.Shadow.{shadow}
use denote.Array.{each, Array}
use denote.Plain.{UInt}
use denote.Laws.{Is}
use lib.ListN.{length}
use Rattle.octets.specs.Number.{Bytes}

each-byte : (xs : List ℕ) (us : List Val) → shadow (each ℕ (UInt w8).own_val xs us) → Bytes xs
each-byte [] us o i h = absurd (not-suc-le-zero h)
each-byte (x ∷ xs) [] o i h = absurd o
each-byte (x ∷ xs) (u ∷ us) o zero h = o.0.1
each-byte (x ∷ xs) (u ∷ us) o (suc i) h = each-byte xs us o.1 i (le_of_suc-le-suc h)

-- of an array, also of one that is a struct's field
pub array_bytes : (n : ℕ) (xs : List ℕ) (vs : List Val) → Is (Array (UInt w8) n) xs vs → (length xs ≡ n) × Bytes xs
array_bytes n xs vs o = (o.1.0.1, each-byte xs o.0 o.1.1)
