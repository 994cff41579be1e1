-- The answers of the call, by the length of the address.
use Prim.Native.Nat.{ℕ}
use mathlib.Core.Path.{◌≡◌, refl}
use mathlib.Core.List.{List}
use mathlib.Core.Bool.{true, ◌||◌}
use native.Mathlib.Decide.{ℕ_discrete}
use lib.Dec.{eqb}
use lib.ListN.{length}
use borrow.Author.Tests.{eq-eqb, ne_eqb}
use Rattle.octets.specs.Positions.{Wide}
use Rattle.octets.proofs.Connectives.{or_true}
use Rattle.std.specs.Prelude.{Result, Err}
use Rattle.output.specs.declared.WriteError.{WriteError}
use Rattle.output.specs.declared.WriteError.TheVariants.{Malformed}
use Rattle.output.specs.Writing.{if_room, counted_of}
use Rattle.ip_text.specs.Text.{text_of}
use Rattle.address_text.specs.Call.{is_address, written_of, text_after}

is_address_lem : (a : List ℕ) → Wide (length a) → is_address a ≡ true
unfolding is_address
is_address_lem a w = by_width (ℕ_discrete (length a) 4)
  where
    by_width : Dec (length a ≡ 4) → eqb (length a) 4 || eqb (length a) 16 ≡ true
    by_width (yes e) = rw (eq-eqb (length a) 4 e)
    by_width (no n) = rw (eq-eqb (length a) 16 (w.1 n)) (or_true (eqb (length a) 4))

module _ (a text : List ℕ) where
  pub told : {after : List ℕ} {r : Result ℕ WriteError} → Wide (length a) → (r ≡ counted_of (text_of a) (length (text_of a)) (length text)) × (after ≡ if_room (text_of a) text)
      → (r ≡ written_of a (length text)) × (after ≡ text_after a text)
  unfolding written_of text_after
  told wide t = rw (is_address_lem a wide) t

  pub no_address : (length a ≡ 4 → ⊥) → (length a ≡ 16 → ⊥) → (Err Malformed ≡ written_of a (length text)) × (text ≡ text_after a text)
  unfolding written_of text_after is_address
  no_address f g = rw (ne_eqb (length a) 4 f, ne_eqb (length a) 16 g) (refl, refl)
