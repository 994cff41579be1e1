-- What holds of the records before a change and is kept by each holds after all; every entry stands.
use Rattle.std.specs.Prelude.{Option, None, Some}
use mathlib.Core.Path.{◌≡◌, refl}
use mathlib.Core.Bool.{Bool, true, false, not, cond, ◌&&◌}
use mathlib.Core.List.{List, [], ◌∷◌}
use Prim.Native.Nat.{ℕ, zero, suc, ◌+◌}
use native.Mathlib.Omega.{arith}
use lib.Dec.{eqb}
use lib.ListN.{length}
use Rattle.registry.specs.Tags.{is_known}
use Rattle.octets.specs.Lists.{keep, filter}
use Rattle.fields.specs.Field.{Head, field, short, head_of}
use Rattle.records.specs.Record.{Record, follows}
use Rattle.records.specs.Judge.{Judged, bad, good, judge}
use Rattle.rows.specs.Entry.{Entry, entry}
use Rattle.rows.specs.Good.{GoodEntry, AllGood, good_nil, good-cons}
use Rattle.changes.specs.Change.{Change, add, remove, malformed, add_judged, add_of, remove_of, good_key, keyed, same_key, change_of, is_there, insert, without, applied, done, after_applied, after_head, changes_from}
use Rattle.changes.proofs.Files.{not_done, later-done}

-- by the changes one after another
module _ (P : List Entry → Type 0) (step : (tag : ℕ) (contents : List ℕ) (es next : List Entry) → P es → applied (change_of tag contents) es ≡ Some next → P next) where
  pub kept-by-all : (n : ℕ) (es fs : List Entry) (s : List ℕ) → changes_from n es s ≡ done fs → P es → P fs
  unfolding changes_from
  kept-by-all zero es fs [] e p = let f : es ≡ fs = cc in rw (← f) p
  kept-by-all (suc n) es fs [] e p = let f : es ≡ fs = cc in rw (← f) p
  kept-by-all zero es fs (b ∷ bs) e p = absurd (not_done _ fs e)
  kept-by-all (suc n) es fs (b ∷ bs) e p = by-head (head_of (b ∷ bs)) e (λ next rest x q. kept-by-all n next fs rest x q)
    where
      Onward : Type 0
      Onward = (next : List Entry) (rest : List ℕ) → changes_from n next rest ≡ done fs → P next → P fs

      by-applied : (tag : ℕ) (contents rest : List ℕ) (o : Option (List Entry)) → applied (change_of tag contents) es ≡ o
          → after_applied o (3 + length contents) (λ next. changes_from n next rest) ≡ done fs → Onward → P fs
      by-applied tag contents rest None x y onward = absurd (not_done _ fs y)
      by-applied tag contents rest (Some next) x y onward = onward next rest (later-done _ (changes_from n next rest) fs y) (step tag contents es next p x)

      by-head : (h : Head) → after_head es h (λ next rest. changes_from n next rest) ≡ done fs → Onward → P fs
      by-head short y onward = absurd (not_done _ fs y)
      by-head (field tag contents rest) y onward = by-applied tag contents rest (applied (change_of tag contents) es) refl y onward

-- what an applied change was
pub data Application (es next : List Entry) : Type 0 where
  adding : (e : Entry) → GoodEntry e → is_there e.parsed es ≡ false → next ≡ insert e es → Application es next
  removing : (r : Record) → next ≡ without r es → Application es next

no_change : {e : Entry} → malformed ≡ add e → ⊥
no_change k = let z : ◌≡◌ {A = ℕ} 0 1 = cc in omega arith

added-good : (bytes : List ℕ) (h : Head) → head_of bytes ≡ h → (e : Entry) → add_of bytes h ≡ add e → GoodEntry e
added-good bytes short x e k = absurd (no_change k)
added-good bytes (field tag contents (b ∷ rest)) x e k = absurd (no_change k)
added-good bytes (field tag contents []) x e k = by-judged (judge [] tag contents) refl k
  where
    by-judged : (j : Judged) → judge [] tag contents ≡ j → add_judged bytes j ≡ add e → GoodEntry e
    by-judged (bad d) y z = absurd (no_change z)
    by-judged (good r) y z = let f : entry r bytes ≡ e = cc in rw (← f) (record { tag = tag; contents = contents; head = x; alone = y })

removal-adds-nothing : (bytes : List ℕ) (e : Entry) → remove_of bytes ≡ add e → ⊥
removal-adds-nothing [] e k = no_change k
removal-adds-nothing (tag ∷ key) e k = by_key (is_known tag && good_key tag key) k
  where
    by_key : (t : Bool) → cond t (remove (keyed tag key)) malformed ≡ add e → ⊥
    by_key true z = let y : ◌≡◌ {A = ℕ} 0 1 = cc in omega arith
    by_key false z = no_change z

change-good : (tag : ℕ) (contents : List ℕ) (e : Entry) → change_of tag contents ≡ add e → GoodEntry e
unfolding change_of
change-good tag contents e k = by-tag (eqb tag 0x30) (eqb tag 0x31) k
  where
    by-tag : (t u : Bool) → cond t (add_of contents (head_of contents)) (cond u (remove_of contents) malformed) ≡ add e → GoodEntry e
    by-tag true u z = added-good contents (head_of contents) refl e z
    by-tag false true z = absurd (removal-adds-nothing contents e z)
    by-tag false false z = absurd (no_change z)

none-some : {es : List Entry} → None ≡ Some es → ⊥
none-some k = let z : ◌≡◌ {A = ℕ} 0 1 = cc in omega arith

pub application : (tag : ℕ) (contents : List ℕ) (es next : List Entry) → applied (change_of tag contents) es ≡ Some next → Application es next
application tag contents es next k = by-change (change_of tag contents) refl k
  where
    by-change : (c : Change) → change_of tag contents ≡ c → applied c es ≡ Some next → Application es next
    by-change malformed x y = absurd (none-some y)
    by-change (add e) x y = by_key (is_there e.parsed es) refl y
      where
        by_key : (t : Bool) → is_there e.parsed es ≡ t → cond t None (Some (insert e es)) ≡ Some next → Application es next
        by_key true u v = absurd (none-some v)
        by_key false u v = let f : next ≡ insert e es = cc in adding e (change-good tag contents e x) u f
    by-change (remove r) x y = by_key (is_there r es) y
      where
        by_key : (t : Bool) → cond t (Some (without r es)) None ≡ Some next → Application es next
        by_key false v = absurd (none-some v)
        by_key true v = let f : next ≡ without r es = cc in removing r f

-- Every entry stands

pub good-insert : (e : Entry) → GoodEntry e → (es : List Entry) → AllGood es → AllGood (insert e es)
unfolding insert
good-insert e k [] s = good-cons k good_nil
good-insert e k (x ∷ es) (good-cons y s) = by_order (follows x.parsed e.parsed) (good-insert e k es s)
  where
    by_order : (t : Bool) → AllGood (insert e es) → AllGood (cond t (x ∷ insert e es) (e ∷ x ∷ es))
    by_order true z = good-cons y z
    by_order false z = good-cons k (good-cons y s)

pub good-filter : (p : Entry → Bool) (es : List Entry) → AllGood es → AllGood (filter p es)
good-filter p [] s = good_nil
good-filter p (x ∷ es) (good-cons y s) = by-test (p x) (good-filter p es s)
  where
    by-test : (t : Bool) → AllGood (filter p es) → AllGood (keep t x (filter p es))
    by-test true z = good-cons y z
    by-test false z = z

pub good-step : (tag : ℕ) (contents : List ℕ) (es next : List Entry) → AllGood es → applied (change_of tag contents) es ≡ Some next → AllGood next
good-step tag contents es next s k = by-application (application tag contents es next k)
  where
    by-application : Application es next → AllGood next
    by-application (adding e x y f) = rw f (good-insert e x es s)
    by-application (removing r f) = rw f (good-filter (λ (e : Entry). not (same_key e.parsed r)) es s)
