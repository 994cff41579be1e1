-- The changes of two files one after another are those of their joining.
use Rattle.std.specs.Prelude.{Option, None, Some}
use mathlib.Core.Path.{◌≡◌, refl, sym, ◌∙◌, ap}
use mathlib.Core.List.{List, [], ◌∷◌, ◌++◌}
use Prim.Native.Nat.{ℕ, zero, suc, ◌+◌, ◌≤◌, ◌<◌}
use native.Mathlib.Omega.{arith}
use lib.ListN.{length, length-append}
use Rattle.fields.specs.Field.{Head, field, short, head_of}
use Rattle.rows.specs.Entry.{Entry}
use Rattle.fields.proofs.Starts.{starts-field}
use Rattle.changes.specs.Change.{Changed, done, refused_at, later, after_applied, after_head, applied, change_of, changes_from, changes_of}

pub not_done : (offset : ℕ) (es : List Entry) → refused_at offset ≡ done es → ⊥
not_done offset es e = let z : ◌≡◌ {A = ℕ} 0 1 = cc in omega arith

pub later-zero : (c : Changed) → later 0 c ≡ c
later-zero (done es) = refl
later-zero (refused_at offset) = let e : 0 + offset ≡ offset = omega arith in ap refused_at e

pub later-later : (m n : ℕ) (c : Changed) → later m (later n c) ≡ later (m + n) c
later-later m n (done es) = refl
later-later m n (refused_at offset) = let e : m + (n + offset) ≡ m + n + offset = omega arith in ap refused_at e

pub later-done : (n : ℕ) (c : Changed) (es : List Entry) → later n c ≡ done es → c ≡ done es
later-done n (done fs) es e = e
later-done n (refused_at offset) es e = absurd (not_done _ es e)

-- what follows the first field of a row
left_over : (s : List ℕ) (tag : ℕ) (contents rest : List ℕ) → head_of s ≡ field tag contents rest → length s ≡ 3 + length contents + length rest
left_over s tag contents rest e = (starts-field s tag contents rest e).long

-- the bound on the number of changes does not matter, if it is not below the number of bytes
bound : (n m : ℕ) (es : List Entry) (s : List ℕ) → length s ≤ n → length s ≤ m → changes_from n es s ≡ changes_from m es s
unfolding changes_from
bound zero zero es s p q = refl
bound zero (suc m) es [] p q = refl
bound zero (suc m) es (b ∷ bs) p q = absurd (omega arith)
bound (suc n) zero es [] p q = refl
bound (suc n) zero es (b ∷ bs) p q = absurd (omega arith)
bound (suc n) (suc m) es [] p q = refl
bound (suc n) (suc m) es (b ∷ bs) p q = by-head (head_of (b ∷ bs)) refl (λ next rest u v. bound n m next rest u v)
  where
    Onward : Type 0
    Onward = (next : List Entry) (rest : List ℕ) → length rest ≤ n → length rest ≤ m → changes_from n next rest ≡ changes_from m next rest

    by-applied : (size : ℕ) (rest : List ℕ) → length rest ≤ n → length rest ≤ m → Onward → (o : Option (List Entry))
        → after_applied o size (λ next. changes_from n next rest) ≡ after_applied o size (λ next. changes_from m next rest)
    by-applied size rest u v onward None = refl
    by-applied size rest u v onward (Some next) = ap (later size) (onward next rest u v)

    by-head : (h : Head) → head_of (b ∷ bs) ≡ h → Onward → after_head es h (λ next rest. changes_from n next rest) ≡ after_head es h (λ next rest. changes_from m next rest)
    by-head short x onward = refl
    by-head (field tag contents rest) x onward =
        let k = left_over (b ∷ bs) tag contents rest x in
        by-applied (3 + length contents) rest (omega arith) (omega arith) onward (applied (change_of tag contents) es)

-- One change of a loop, with one bound for all of it

pub change-end : (n : ℕ) (es : List Entry) → changes_from n es [] ≡ done es
unfolding changes_from
change-end zero es = refl
change-end (suc n) es = refl

pub change-cut : (n : ℕ) (es : List Entry) (s : List ℕ) → head_of s ≡ short → 0 < length s → changes_from n es s ≡ refused_at 0
unfolding changes_from
change-cut zero es [] e h = absurd (omega arith)
change-cut (suc n) es [] e h = absurd (omega arith)
change-cut zero es (b ∷ bs) e h = refl
change-cut (suc n) es (b ∷ bs) e h = rw e

pub change-step : (n : ℕ) (es : List Entry) (s : List ℕ) (tag : ℕ) (contents rest : List ℕ) → head_of s ≡ field tag contents rest → length s ≤ n
    → changes_from n es s ≡ after_applied (applied (change_of tag contents) es) (3 + length contents) (λ next. changes_from n next rest)
unfolding changes_from
change-step zero es s tag contents rest e h = absurd (omega (arith, left_over s tag contents rest e))
change-step (suc n) es [] tag contents rest e h = absurd (omega (arith, left_over [] tag contents rest e))
change-step (suc n) es (b ∷ bs) tag contents rest e h = rw e (by-applied (applied (change_of tag contents) es))
  where
    by-applied : (o : Option (List Entry))
        → after_applied o (3 + length contents) (λ next. changes_from n next rest) ≡ after_applied o (3 + length contents) (λ next. changes_from (suc n) next rest)
    by-applied None = refl
    by-applied (Some next) =
        let k = left_over (b ∷ bs) tag contents rest e in
        ap (later (3 + length contents)) (bound n (suc n) next rest (omega arith) (omega arith))

-- the second file goes on where the first ends
joined-from : (n k m : ℕ) (es fs : List Entry) (s t : List ℕ) → changes_from n es s ≡ done fs → length (s ++ t) ≤ k → length t ≤ m
    → changes_from k es (s ++ t) ≡ later (length s) (changes_from m fs t)
unfolding changes_from
joined-from zero k m es fs [] t e p q = let f : es ≡ fs = cc in rw (← f) (bound k m es t p q ∙ sym (later-zero (changes_from m es t)))
joined-from (suc n) k m es fs [] t e p q = let f : es ≡ fs = cc in rw (← f) (bound k m es t p q ∙ sym (later-zero (changes_from m es t)))
joined-from zero k m es fs (b ∷ bs) t e p q = absurd (not_done _ fs e)
joined-from (suc n) zero m es fs (b ∷ bs) t e p q = absurd (omega arith)
joined-from (suc n) (suc k) m es fs (b ∷ bs) t e p q =
    by-head (head_of (b ∷ bs)) refl e (λ next rest u v. joined-from n k m next fs rest t u v q)
  where
    Onward : Type 0
    Onward = (next : List Entry) (rest : List ℕ) → changes_from n next rest ≡ done fs → length (rest ++ t) ≤ k
        → changes_from k next (rest ++ t) ≡ later (length rest) (changes_from m fs t)

    by-applied : (size : ℕ) (rest : List ℕ) → length (rest ++ t) ≤ k → size + length rest ≡ suc (length bs) → Onward → (o : Option (List Entry))
        → after_applied o size (λ next. changes_from n next rest) ≡ done fs
        → after_applied o size (λ next. changes_from k next (rest ++ t)) ≡ later (suc (length bs)) (changes_from m fs t)
    by-applied size rest u v onward None x = absurd (not_done _ fs x)
    by-applied size rest u v onward (Some next) x =
        ap (later size) (onward next rest (later-done size (changes_from n next rest) fs x) u)
        ∙ later-later size (length rest) (changes_from m fs t)
        ∙ ap (λ (i : ℕ). later i (changes_from m fs t)) v

    by-head : (h : Head) → head_of (b ∷ bs) ≡ h → after_head es h (λ next rest. changes_from n next rest) ≡ done fs → Onward
        → after_head es (head_of (b ∷ (bs ++ t))) (λ next rest. changes_from k next rest) ≡ later (suc (length bs)) (changes_from m fs t)
    by-head short x y onward = absurd (not_done _ fs y)
    by-head (field tag contents rest) x y onward =
        let w = starts-field (b ∷ bs) tag contents rest x in
        rw (w.followed t)
        (by-applied (3 + length contents) rest (omega (arith, w.long, length-append bs t, length-append rest t)) (sym w.long) onward
        (applied (change_of tag contents) es) y)

pub joined : (es fs : List Entry) (s t : List ℕ) → changes_of es s ≡ done fs → changes_of es (s ++ t) ≡ later (length s) (changes_of fs t)
unfolding changes_of
joined es fs s t e = joined-from (length s) (length (s ++ t)) (length t) es fs s t e (omega arith) (omega arith)
