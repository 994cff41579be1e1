-- Laws of a test made at each place, for a loop that has come to place i: the test goes on, is decided here, or is at its end.
-- The rest of s from i is taken apart by its first byte.
use Prim.Native.Nat.{ℕ, ◌+◌, ◌≤◌, ◌<◌}
use mathlib.Core.Path.{◌≡◌}
use mathlib.Core.List.{List}
use mathlib.Core.Bool.{Bool, true, false}
use native.Mathlib.Numerals.{add-one}
use lib.ListN.{length, get_or, drop, drop_of_length-le}
use lib.Seq.{drop-cons}
use borrow.Author.Tests.{eq-eqb, ne_eqb}
use Rattle.octets.specs.Lists.{every, contains}
use Rattle.octets.specs.Scan.{everywhere, somewhere}

-- a test of all that stands from a place on
module _ (p : List ℕ → Bool) (s : List ℕ) (i : ℕ) where
  pub everywhere_on : i < length s → p (drop i s) ≡ true → everywhere p (drop i s) ≡ everywhere p (drop (i + 1) s)
  unfolding everywhere
  everywhere_on h e = rw (add-one, drop-cons s i 0 h, rw (drop-cons s i 0 h) at e)

  pub everywhere-bad : i < length s → p (drop i s) ≡ false → everywhere p (drop i s) ≡ false
  unfolding everywhere
  everywhere-bad h e = rw (drop-cons s i 0 h, rw (drop-cons s i 0 h) at e)

  pub everywhere-end : length s ≤ i → everywhere p (drop i s) ≡ true
  unfolding everywhere
  everywhere-end h = rw (drop_of_length-le s h)

  pub somewhere_on : i < length s → p (drop i s) ≡ false → somewhere p (drop i s) ≡ somewhere p (drop (i + 1) s)
  unfolding somewhere
  somewhere_on h e = rw (add-one, drop-cons s i 0 h, rw (drop-cons s i 0 h) at e)

  pub somewhere-here : i < length s → p (drop i s) ≡ true → somewhere p (drop i s) ≡ true
  unfolding somewhere
  somewhere-here h e = rw (drop-cons s i 0 h, rw (drop-cons s i 0 h) at e)

  pub somewhere-end : length s ≤ i → somewhere p (drop i s) ≡ false
  unfolding somewhere
  somewhere-end h = rw (drop_of_length-le s h)

-- a test of one byte
module _ (p : ℕ → Bool) (s : List ℕ) (i : ℕ) where
  pub every_on : i < length s → p (get_or s i 0) ≡ true → every p (drop i s) ≡ every p (drop (i + 1) s)
  unfolding every
  every_on h e = rw (add-one, drop-cons s i 0 h, e)

  pub every-bad : i < length s → p (get_or s i 0) ≡ false → every p (drop i s) ≡ false
  unfolding every
  every-bad h e = rw (drop-cons s i 0 h, e)

  pub every-end : length s ≤ i → every p (drop i s) ≡ true
  unfolding every
  every-end h = rw (drop_of_length-le s h)

-- whether the byte b stands there
module _ (b : ℕ) (s : List ℕ) (i : ℕ) where
  pub contains_on : i < length s → (get_or s i 0 ≡ b → ⊥) → contains b (drop i s) ≡ contains b (drop (i + 1) s)
  unfolding contains
  contains_on h e = rw (add-one, drop-cons s i 0 h, ne_eqb _ _ e)

  pub contains-here : i < length s → get_or s i 0 ≡ b → contains b (drop i s) ≡ true
  unfolding contains
  contains-here h e = rw (drop-cons s i 0 h, eq-eqb _ _ e)

  pub contains-end : length s ≤ i → contains b (drop i s) ≡ false
  unfolding contains
  contains-end h = rw (drop_of_length-le s h)
