-- A record is sorted by its tag and its bare key alone.
use mathlib.Core.Path.{◌≡◌, refl, sym, ◌∙◌, ap}
use mathlib.Core.Bool.{Bool, true, false, not, cond, ◌&&◌, ◌||◌, false≢true}
use mathlib.Core.List.{List, [], ◌∷◌}
use Prim.Native.Nat.{ℕ, ◌+◌, ◌*◌}
use native.Mathlib.Omega.{arith}
use borrow.Author.Tests.{eqb-true, eq-eqb, ne_eqb, le-ltb}
use lib.Dec.{ltb, eqb}
use lib.ListN.{length, take}
use lib.Seq.{take_all}
use Rattle.registry.specs.Tags.{is_block, width_of}
use Rattle.octets.specs.Number.{at_most}
use Rattle.address.specs.Ranges.{Range, range_from, sorts_after}
use Rattle.address.specs.Positions.{range_in}
use Rattle.records.specs.Record.{Record, range_of, key_of, sorted_after, follows}
use Rattle.rows.specs.Entry.{Entry}
use Rattle.changes.specs.Change.{keyed, same_key, is_there}
use Rattle.changes.specs.Rank.{rank_of}
use Rattle.by_key.specs.Key.{bare_key}

abbrev key_only : Record → Record
key_only r = keyed r.tag (bare_key r)

pub keyed-is : (p q : ℕ) (a b : List ℕ) → p ≡ q → a ≡ b → keyed p a ≡ keyed q b
keyed-is p q a b e f = rw (e, f)

same-both : (u : Bool) (x : List ℕ) → cond u x x ≡ x
same-both true x = refl
same-both false x = refl

sorted-right : (p r : Record) → sorted_after p (key_only r) ≡ sorted_after p r
unfolding sorted_after
sorted-right p r = by-block (is_block r.tag)
  where
    by-block : (t : Bool)
        → cond t (sorts_after (range_of p) (range_from (width_of r.tag) (cond t r.range (key_of r))))
        (not (at_most (cond (eqb r.tag 0x15) (cond t r.range (key_of r)) (cond t r.range (key_of r))) (key_of p)))
        ≡ cond t (sorts_after (range_of p) (range_of r)) (not (at_most (key_of r) (key_of p)))
    by-block true = refl
    by-block false = rw (same-both (eqb r.tag 0x15) (key_of r))

sorted-left : (p r : Record) → p.tag ≡ r.tag → sorted_after (key_only p) r ≡ sorted_after p r
unfolding sorted_after
sorted-left p r e = by-block (is_block p.tag) (is_block r.tag) (ap (λ (t : ℕ). is_block t) e) (range_of r) (key_of r)
  where
    by-block : (t v : Bool) → t ≡ v → (a : Range) (k : List ℕ)
        → cond v (sorts_after (range_from (width_of p.tag) (cond t p.range (key_of p))) a)
        (not (at_most k (cond (eqb p.tag 0x15) (cond t p.range (key_of p)) (cond t p.range (key_of p)))))
        ≡ cond v (sorts_after (range_of p) a) (not (at_most k (key_of p)))
    by-block true true f a k = refl
    by-block false false f a k = rw (same-both (eqb p.tag 0x15) (key_of p))
    by-block true false f a k = absurd (false≢true (sym f))
    by-block false true f a k = absurd (false≢true f)

pub follows-right : (p r : Record) → follows p (key_only r) ≡ follows p r
unfolding follows
follows-right p r = rw (sorted-right p r)

pub follows-left : (p r : Record) → follows (key_only p) r ≡ follows p r
unfolding follows
follows-left p r = by_tags (eqb p.tag r.tag) refl
  where
    by_tags : (t : Bool) → eqb p.tag r.tag ≡ t
        → (ltb p.tag r.tag || (t && sorted_after (key_only p) r)) ≡ (ltb p.tag r.tag || (t && sorted_after p r))
    by_tags true e = rw (sorted-left p r (eqb-true _ _ e))
    by_tags false e = refl

same-right : (p r : Record) → same_key p (key_only r) ≡ same_key p r
unfolding same_key
same-right p r = by_tags (eqb p.tag r.tag) refl
  where
    by_tags : (t : Bool) → eqb p.tag r.tag ≡ t
        → (t && not (sorted_after p (key_only r)) && not (sorted_after (key_only r) p)) ≡ (t && not (sorted_after p r) && not (sorted_after r p))
    by_tags true e = rw (sorted-right p r, sorted-left r p (sym (eqb-true _ _ e)))
    by_tags false e = refl

pub rank_key : (r : Record) (es : List Entry) → rank_of (key_only r) es ≡ rank_of r es
unfolding rank_of
rank_key r [] = refl
rank_key r (x ∷ es) = rw (follows-right x.parsed r, rank_key r es)

pub there-key : (r : Record) (es : List Entry) → is_there (key_only r) es ≡ is_there r es
there-key r [] = refl
there-key r (x ∷ es) = rw (same-right x.parsed r, there-key r es)

-- The order of two keys, test by test

module _ (p q : ℕ) (a b : List ℕ) where
  pub other-tags : (p ≡ q → ⊥) → ltb p q ≡ follows (keyed p a) (keyed q b)
  unfolding follows
  other-tags n = rw (ne_eqb p q n) (sym (or_none (ltb p q)))
    where
      or_none : (x : Bool) → (x || (false && sorted_after (keyed p a) (keyed q b))) ≡ x
      or_none true = refl
      or_none false = refl

  module _ (e : p ≡ q) where
    pub same-tags : follows (keyed p a) (keyed q b) ≡ sorted_after (keyed p a) (keyed q b)
    unfolding follows
    same-tags = rw (le-ltb p q (omega arith), eq-eqb p q e)

    pub range-tags : is_block q ≡ true → length a ≡ 2 * width_of p → length b ≡ 2 * width_of p
        → sorts_after (range_in a 0 (width_of p)) (range_in b 0 (width_of p)) ≡ follows (keyed p a) (keyed q b)
    unfolding sorted_after
    range-tags h k l = sym (same-tags ∙ rw (h, ← e, range-key (width_of p) a k, range-key (width_of p) b l))
      where
        range-key : (w : ℕ) (x : List ℕ) → length x ≡ 2 * w → range_from w x ≡ range_in x 0 w
        range-key w x k =
            let z : 0 + w ≡ w = omega arith in
            let y : take (w + w) x ≡ x = take_all (w + w) x (omega arith) in
            rw (z, y)

    pub name-tags : is_block q ≡ false → not (at_most b a) ≡ follows (keyed p a) (keyed q b)
    unfolding sorted_after
    name-tags h = sym (same-tags ∙ rw (h, same-both (eqb q 0x15) b, same-both (eqb p 0x15) a))
