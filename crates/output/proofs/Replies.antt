-- A turn of the copy, and the two replies.
use Rattle.std.specs.Prelude.{Ok, Err}
use Prim.Native.Nat.{ℕ, ◌+◌, ◌≤◌, ◌<◌}
use mathlib.Core.Path.{◌≡◌, refl, sym}
use mathlib.Core.List.{List, [], ◌++◌}
use native.Mathlib.Omega.{arith}
use native.Mathlib.Numerals.{add-one}
use borrow.Author.Tests.{lt-ltb, le-ltb}
use lib.ListN.{length, take, drop, get_or, set}
use lib.Seq.{take-suc, drop-cons, append_snoc, set_at, length-take-le}
use Rattle.output.specs.Writing.{over}
use Rattle.output.specs.Listing.{no_room, listed_of, list_afterwards, Reported}

-- i is how many of those found are copied
module _ (found list : List ℕ) (i : ℕ) where
  pub copied_next : i < length found → i < length list → set (take i found ++ drop i list) i (get_or found i 0) ≡ take (i + 1) found ++ drop (i + 1) list
  copied_next h k =
      rw (drop-cons list i 0 k, set_at (take i found) (get_or list i 0) _ (get_or found i 0) i (length-take-le i found (omega arith)), add-one i, take-suc found i 0 h)
      (sym (append_snoc (take i found) (get_or found i 0) _))

module _ (found list : List ℕ) where
  -- none
  pub full-reply : length list < length found → Reported found list list (Err (no_room (length found)))
  unfolding listed_of list_afterwards
  full-reply h = record { answer = rw (lt-ltb _ _ h); written = rw (lt-ltb _ _ h) }

  -- all
  pub done-reply : length found ≤ length list → {after : List ℕ} → after ≡ over found list → Reported found list after (Ok (length found))
  unfolding listed_of list_afterwards
  done-reply h e = record { answer = rw (le-ltb _ _ h); written = rw (le-ltb _ _ h) e }

-- nothing found
pub nothing-reported : (list : List ℕ) → Reported [] list list (Ok 0)
nothing-reported list = done-reply [] list (omega arith) refl
