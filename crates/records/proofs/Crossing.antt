-- Defect 7 between two records: where an earlier block cannot have it with a later one, and where it does. By computing the tests of the definition.
use mathlib.Core.Path.{◌≡◌}
use mathlib.Core.Bool.{Bool, true, false, ◌&&◌}
use Prim.Native.Nat.{◌≤◌, ◌<◌}
use borrow.Author.Tests.{le-leb, lt-leb, eq-eqb, ne_eqb}
use native.Mathlib.Nat.{le_trans}
use lib.Dec.{leb, eqb}
use Rattle.registry.specs.Tags.{is_block}
use Rattle.octets.proofs.Connectives.{and-false}
use Rattle.address.specs.Ranges.{overlaps, covers, crosses}
use Rattle.records.specs.Record.{Record, range_of, first_of, last_of, crosses_block}

all : {a b c : Bool} → a ≡ true → b ≡ true → c ≡ true → (a && b && c) ≡ true
all e f g = rw (e, f, g)

module _ (e r : Record) where
  pub crosses-out : is_block r.tag ≡ true → e.tag ≡ r.tag → first_of e ≤ first_of r → first_of r ≤ last_of r → first_of r ≤ last_of e → last_of e < last_of r
      → crosses_block e r ≡ true
  unfolding crosses_block crosses overlaps covers
  crosses-out b t h g k l =
      all b (eq-eqb e.tag r.tag t)
      (rw (le-leb (first_of r) (last_of e) k, le-leb (first_of e) (last_of r) (le_trans h g), le-leb (first_of e) (first_of r) h, lt-leb (last_of r) (last_of e) l))

  pub crosses-ended : last_of e < first_of r → crosses_block e r ≡ false
  unfolding crosses_block crosses overlaps
  crosses-ended h =
      rw (lt-leb (first_of r) (last_of e) h, and-false (leb (first_of e) (last_of r)), and-false (is_block r.tag && eqb e.tag r.tag))

  pub crosses-around : first_of e ≤ first_of r → last_of r ≤ last_of e → crosses_block e r ≡ false
  unfolding crosses_block crosses covers
  crosses-around h k =
      rw (le-leb (first_of e) (first_of r) h, le-leb (last_of r) (last_of e) k, and-false (overlaps (range_of e) (range_of r)))
      (and-false (is_block r.tag && eqb e.tag r.tag))

  pub crosses-other : (e.tag ≡ r.tag → ⊥) → crosses_block e r ≡ false
  unfolding crosses_block
  crosses-other h = rw (ne_eqb e.tag r.tag h, and-false (is_block r.tag))

  pub crosses-no-block : is_block r.tag ≡ false → crosses_block e r ≡ false
  unfolding crosses_block
  crosses-no-block h = rw h
