-- Entry i of an index.
use mathlib.Core.Path.{◌≡◌, ◌∙◌}
use mathlib.Core.List.{List, [], ◌∷◌}
use Prim.Native.Nat.{ℕ, zero, suc, ◌<◌}
use native.Mathlib.Omega.{arith}
use lib.ListN.{length, get_or, take, drop, length-map, get_or-map}
use lib.Seq.{drop-cons, get_or-take, length-take-le}
use Rattle.rows.specs.Entry.{Entry}
use Rattle.rows.specs.Good.{GoodEntry, AllGood, good-cons}
use Rattle.changes.proofs.Ranks.{no-cons}
use Rattle.merged.specs.Held.{bytes_at, entry_of, entries_at, Recorded, Merged}

good_in : (i : ℕ) (es : List Entry) (x : Entry) (rest : List Entry) → AllGood es → drop i es ≡ x ∷ rest → GoodEntry x
good_in zero [] x rest s e = absurd (no-cons x rest e)
good_in (suc i) [] x rest s e = absurd (no-cons x rest e)
good_in zero (y ∷ es) x rest (good-cons a s) e = let k : y ≡ x = cc in rw (← k) a
good_in (suc i) (y ∷ es) x rest (good-cons a s) e = good_in i es x rest s e

module _ {image changes index : List ℕ} {n : ℕ} (m : Merged image changes index n) where
  abbrev es : List Entry
  es = entries_at image changes (take n index)

  pub count-is : length es ≡ n
  count-is = length-map (take n index) (λ (p : ℕ). entry_of (bytes_at image changes p)) ∙ length-take-le n index (omega (arith, m.full, m.few))

  pub entry_at : (i : ℕ) → i < n → drop i es ≡ entry_of (bytes_at image changes (get_or index i 0)) ∷ drop (suc i) es
  entry_at i h =
      drop-cons es i (entry_of (bytes_at image changes 0)) (omega (arith, count-is))
      ∙ rw (get_or-map (λ (p : ℕ). entry_of (bytes_at image changes p)) (take n index) i 0, get_or-take n index i 0 h)

  pub recorded_at : (i : ℕ) → i < n → Recorded (bytes_at image changes (get_or index i 0))
  recorded_at i h = good_in i es _ _ m.held.good (entry_at i h)
