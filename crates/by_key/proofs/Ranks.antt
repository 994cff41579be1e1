-- The search by halves for a key, and what stands at its rank.
use mathlib.Core.Path.{◌≡◌, refl, sym, ◌∙◌, ap}
use mathlib.Core.Bool.{Bool, true, false, not, false≢true}
use mathlib.Core.List.{List, []}
use Prim.Native.Nat.{ℕ, ◌+◌, ◌≤◌, ◌<◌}
use native.Mathlib.Omega.{arith}
use lib.ListN.{get_or, take, drop, drop_of_length-le}
use Rattle.halves.proofs.Halves.{Halved, halve_up, halve_down, by_number, number-found}
use Rattle.records.specs.Record.{Record, follows}
use Rattle.rows.specs.Entry.{Entry}
use Rattle.changes.specs.Change.{same_key, is_there}
use Rattle.changes.specs.Rank.{rank_of}
use Rattle.changes.proofs.Ordered.{other_way}
use Rattle.changes.proofs.Ranks.{follows-back, there-at, rank_above, rank_at-most, rank_length}
use Rattle.merged.specs.Held.{bytes_at, parsed_from, entries_at, Merged}
use Rattle.merged.proofs.Numbered.{count-is, entry_at}

-- the records before low come before the key, those from high on do not
abbrev pub Ranked : Record → List Entry → ℕ → ℕ → ℕ → Type 0
Ranked r es n low high = Halved (λ i. i < rank_of r es) (λ i. rank_of r es ≤ i) 0 n low high

module _ {image changes index : List ℕ} {n : ℕ} (m : Merged image changes index n) (r : Record) where
  abbrev es : List Entry
  es = entries_at image changes (take n index)

  -- the record of number i
  abbrev at : ℕ → Record
  at i = parsed_from (bytes_at image changes (get_or index i 0))

  pub rank_few : rank_of r es ≤ n
  rank_few = omega (arith, rank_length r es, count-is m)

  module _ {low high i : ℕ} (w : Ranked r es n low high) (a : low ≤ i) (b : i < high) where
    inside : i < n
    inside = omega (arith, b, w.ends)

    pub ranked_up : follows (at i) r ≡ true → Ranked r es n (i + 1) high
    ranked_up e = halve_up (by_number (rank_of r es) 0 n) low high i w a b (rank_above r i es _ _ m.held.ordered (entry_at m i inside) e)

    pub ranked_down : follows (at i) r ≡ false → Ranked r es n low i
    ranked_down e = halve_down (by_number (rank_of r es) 0 n) low high i w a b (rank_at-most r i es _ _ (entry_at m i inside) e)

  pub ranked_end : {low high : ℕ} → Ranked r es n low high → high ≤ low → low ≡ rank_of r es
  ranked_end w e = number-found rank_few w e

  -- what stands at the rank
  pub there-none : (i : ℕ) → i ≡ rank_of r es → n ≤ i → false ≡ is_there r es
  there-none i e l =
      let z : drop (rank_of r es) es ≡ [] = drop_of_length-le es {i = rank_of r es} (omega (arith, count-is m)) in
      sym (there-at r es m.held.ordered ∙ rw z)

  pub there-here : (i : ℕ) → i ≡ rank_of r es → i < n → (t : Bool) → t ≡ follows r (at i) → not t ≡ is_there r es
  there-here i e l t f =
      sym (there-at r es m.held.ordered ∙ rw (← e, entry_at m i l) (by_key (same_key (at i) r) refl (not-before (follows (at i) r) refl)))
    where
      not-before : (v : Bool) → follows (at i) r ≡ v → v ≡ false
      not-before false y = refl
      not-before true y = absurd (omega (arith, rank_above r i es _ _ m.held.ordered (entry_at m i l) y, e))

      by_key : (v : Bool) → same_key (at i) r ≡ v → follows (at i) r ≡ false → v ≡ not t
      by_key true y z = by_after t f y
        where
          by_after : (w : Bool) → w ≡ follows r (at i) → same_key (at i) r ≡ true → true ≡ not w
          by_after false u v = refl
          by_after true u v = absurd (false≢true (sym (follows-back (at i) r (sym u)) ∙ v))
      by_key false y z = sym (ap not (f ∙ other_way (at i) r y z))
