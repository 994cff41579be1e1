-- Where a change is made: at the rank of its key. What code needs to search by halves and to move the index by one.
use mathlib.Core.Path.{◌≡◌, refl, sym, ◌∙◌, ap}
use mathlib.Core.Bool.{Bool, true, false, not, cond, ◌&&◌, ◌||◌, false≢true, and-false}
use mathlib.Core.Logic.{◌⊎◌, inl, inr}
use mathlib.Core.List.{List, [], ◌∷◌, ◌++◌}
use Prim.Native.Nat.{ℕ, zero, suc, ◌≤◌, ◌<◌, suc-le-suc, zero-le}
use borrow.Author.Tests.{eqb-true, ne_eqb}
use native.Mathlib.Omega.{arith}
use lib.Dec.{eqb}
use lib.ListN.{length, take, drop}
use Rattle.octets.specs.Lists.{keep}
use Rattle.records.specs.Record.{Record, sorted_after, follows}
use Rattle.rows.specs.Entry.{Entry, parsed_of}
use Rattle.rows.specs.Ordered.{AllAfter, after-cons, Ordered, ordered-cons}
use Rattle.records.proofs.Order.{sorted-between, follows-cases, follows_trans}
use Rattle.rows.proofs.Ordering.{all-after_trans}
use Rattle.changes.specs.Change.{same_key, is_there, insert, without}
use Rattle.changes.specs.Rank.{rank_of, starts_with}
use Rattle.changes.proofs.Ordered.{other_way}

-- Keys

-- what a record follows has another key
follows-other : (p r : Record) → follows p r ≡ true → same_key p r ≡ false
unfolding same_key
follows-other p r e = by_cases (follows-cases p r e)
  where
    by_cases : (p.tag < r.tag) ⊎ ((p.tag ≡ r.tag) × (sorted_after p r ≡ true)) → (eqb p.tag r.tag && not (sorted_after p r) && not (sorted_after r p)) ≡ false
    by_cases (inl h) = rw (ne_eqb p.tag r.tag (λ k. omega (arith, k)))
    by_cases (inr h) = rw (h.1, and-false (eqb p.tag r.tag))

pub follows-back : (p r : Record) → follows r p ≡ true → same_key p r ≡ false
unfolding same_key
follows-back p r e = by_cases (follows-cases r p e)
  where
    by_cases : (r.tag < p.tag) ⊎ ((r.tag ≡ p.tag) × (sorted_after r p ≡ true)) → (eqb p.tag r.tag && not (sorted_after p r) && not (sorted_after r p)) ≡ false
    by_cases (inl h) = rw (ne_eqb p.tag r.tag (λ k. omega (arith, k)))
    by_cases (inr h) = rw (h.1, and-false (eqb p.tag r.tag && not (sorted_after p r)))

-- what has the same key as p has another than any record after p
same_after : (p r q : Record) → same_key p r ≡ true → follows p q ≡ true → same_key q r ≡ false
unfolding same_key
same_after p r q e f = by_tests (eqb p.tag r.tag) (sorted_after p r) refl refl e (follows-cases p q f)
  where
    by_tests : (t u : Bool) → eqb p.tag r.tag ≡ t → sorted_after p r ≡ u → (t && not u && not (sorted_after r p)) ≡ true
        → (p.tag < q.tag) ⊎ ((p.tag ≡ q.tag) × (sorted_after p q ≡ true)) → (eqb q.tag r.tag && not (sorted_after q r) && not (sorted_after r q)) ≡ false
    by_tests false u x y k c = absurd (false≢true k)
    by_tests true true x y k c = absurd (false≢true k)
    by_tests true false x y k (inl h) = rw (ne_eqb q.tag r.tag (λ l. omega (arith, l, eqb-true p.tag r.tag x)))
    by_tests true false x y k (inr h) =
        let z : r.tag ≡ q.tag = sym (eqb-true _ _ x) ∙ h.0 in
        rw (sorted-between p r q z h.1 y, and-false (eqb q.tag r.tag && not (sorted_after q r)))

-- Insertion, in any list
pub insert-at : (e : Entry) (es : List Entry) → insert e es ≡ take (rank_of e.parsed es) es ++ e ∷ drop (rank_of e.parsed es) es
unfolding insert rank_of
insert-at e [] = refl
insert-at e (x ∷ es) = by_order (follows x.parsed e.parsed) (insert-at e es)
  where
    n : ℕ
    n = rank_of e.parsed es

    by_order : (t : Bool) → insert e es ≡ take n es ++ e ∷ drop n es
        → cond t (x ∷ insert e es) (e ∷ x ∷ es) ≡ take (cond t (suc n) 0) (x ∷ es) ++ e ∷ drop (cond t (suc n) 0) (x ∷ es)
    by_order true k = ap (λ (l : List Entry). x ∷ l) k
    by_order false k = refl

-- Whether a key is there, and removal, in a sorted list

not_after : (r : Record) (es : List Entry) → AllAfter r (parsed_of es) → is_there r es ≡ false
not_after r [] a = refl
not_after r (x ∷ es) (after-cons e a) = rw (follows-back x.parsed r e) (not_after r es a)

pub there-at : (r : Record) (es : List Entry) → Ordered (parsed_of es) → is_there r es ≡ starts_with r (drop (rank_of r es) es)
unfolding rank_of
there-at r [] s = refl
there-at r (x ∷ es) (ordered-cons a s) = by_order (follows x.parsed r) refl (there-at r es s)
  where
    by_key : (t : Bool) → same_key x.parsed r ≡ t → follows x.parsed r ≡ false → (t || is_there r es) ≡ t
    by_key true y k = refl
    by_key false y k = not_after r es (all-after_trans r x.parsed (parsed_of es) (other_way x.parsed r y k) a)

    by_order : (t : Bool) → follows x.parsed r ≡ t → is_there r es ≡ starts_with r (drop (rank_of r es) es)
        → (same_key x.parsed r || is_there r es) ≡ starts_with r (drop (cond t (suc (rank_of r es)) 0) (x ∷ es))
    by_order true k z = rw (follows-other x.parsed r k) z
    by_order false k z = by_key (same_key x.parsed r) refl k

all-kept : (p r : Record) (es : List Entry) → same_key p r ≡ true → AllAfter p (parsed_of es) → without r es ≡ es
all-kept p r [] e a = refl
all-kept p r (x ∷ es) e (after-cons f a) = rw (same_after p r x.parsed e f) (ap (λ (l : List Entry). x ∷ l) (all-kept p r es e a))

pub without_at : (r : Record) (es : List Entry) → Ordered (parsed_of es) → starts_with r (drop (rank_of r es) es) ≡ true
    → without r es ≡ take (rank_of r es) es ++ drop (suc (rank_of r es)) es
unfolding rank_of
without_at r [] s e = refl
without_at r (x ∷ es) (ordered-cons a s) e = by_order (follows x.parsed r) refl e (λ k. without_at r es s k)
  where
    n : ℕ
    n = rank_of r es

    by_order : (t : Bool) → follows x.parsed r ≡ t → starts_with r (drop (cond t (suc n) 0) (x ∷ es)) ≡ true
        → (starts_with r (drop n es) ≡ true → without r es ≡ take n es ++ drop (suc n) es)
        → keep (not (same_key x.parsed r)) x (without r es) ≡ take (cond t (suc n) 0) (x ∷ es) ++ drop (suc (cond t (suc n) 0)) (x ∷ es)
    by_order true k z onward = rw (follows-other x.parsed r k) (ap (λ (l : List Entry). x ∷ l) (onward z))
    by_order false k z onward = rw z (all-kept x.parsed r es z a)

-- The rank by halves

pub rank_length : (r : Record) (es : List Entry) → rank_of r es ≤ length es
unfolding rank_of
rank_length r [] = zero-le
rank_length r (x ∷ es) = by_order (follows x.parsed r) (rank_length r es)
  where
    by_order : (t : Bool) → rank_of r es ≤ length es → cond t (suc (rank_of r es)) 0 ≤ suc (length es)
    by_order true h = suc-le-suc h
    by_order false h = zero-le

pub no-cons : (x : Entry) (rest : List Entry) → [] ≡ x ∷ rest → ⊥
no-cons x rest e = let z : ◌≡◌ {A = ℕ} 0 1 = cc in omega arith

after-drop : (p : Record) (i : ℕ) (es : List Entry) (x : Entry) (rest : List Entry) → AllAfter p (parsed_of es) → drop i es ≡ x ∷ rest → follows p x.parsed ≡ true
after-drop p zero [] x rest a e = absurd (no-cons x rest e)
after-drop p (suc i) [] x rest a e = absurd (no-cons x rest e)
after-drop p zero (y ∷ es) x rest (after-cons f a) e = let k : y ≡ x = cc in rw (← k) f
after-drop p (suc i) (y ∷ es) x rest (after-cons f a) e = after-drop p i es x rest a e

-- a record that comes before the key has a number below its rank
pub rank_above : (r : Record) (i : ℕ) (es : List Entry) (x : Entry) (rest : List Entry) → Ordered (parsed_of es) → drop i es ≡ x ∷ rest
    → follows x.parsed r ≡ true → i < rank_of r es
unfolding rank_of
rank_above r zero [] x rest s e f = absurd (no-cons x rest e)
rank_above r (suc i) [] x rest s e f = absurd (no-cons x rest e)
rank_above r zero (y ∷ es) x rest s e f =
    let k : x ≡ y = cc in
    let g : follows y.parsed r ≡ true = rw k at f in
    rw g (suc-le-suc zero-le)
rank_above r (suc i) (y ∷ es) x rest (ordered-cons a s) e f =
    rw (follows_trans y.parsed x.parsed r (after-drop y.parsed i es x rest a e) f) (suc-le-suc (rank_above r i es x rest s e f))

-- one that does not has not
pub rank_at-most : (r : Record) (i : ℕ) (es : List Entry) (x : Entry) (rest : List Entry) → drop i es ≡ x ∷ rest
    → follows x.parsed r ≡ false → rank_of r es ≤ i
unfolding rank_of
rank_at-most r zero [] x rest e f = zero-le
rank_at-most r (suc i) [] x rest e f = zero-le
rank_at-most r zero (y ∷ es) x rest e f =
    let k : x ≡ y = cc in
    let g : follows y.parsed r ≡ false = rw k at f in
    rw g zero-le
rank_at-most r (suc i) (y ∷ es) x rest e f = by_order (follows y.parsed r) (rank_at-most r i es x rest e f)
  where
    by_order : (t : Bool) → rank_of r es ≤ i → cond t (suc (rank_of r es)) 0 ≤ suc i
    by_order true h = suc-le-suc h
    by_order false h = zero-le
