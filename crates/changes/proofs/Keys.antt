-- Two records have the same key exactly if they have the same tag and the same range, or the same name or handle.
use mathlib.Core.Path.{◌≡◌, refl, sym}
use mathlib.Core.Bool.{Bool, true, false, not, ◌&&◌, false≢true}
use mathlib.Core.Logic.{◌⊎◌, inl, inr}
use Prim.Native.Nat.{ℕ, ◌<◌}
use borrow.Author.Tests.{eqb-true, eq-eqb, not-false}
use native.Mathlib.Omega.{arith}
use lib.Dec.{eqb}
use Rattle.registry.specs.Tags.{is_block}
use Rattle.address.specs.Ranges.{Range, sorts_after}
use Rattle.records.specs.Record.{Record, range_of, key_of, sorted_after}
use Rattle.octets.proofs.Order.{at-most-refl, at-most-both}
use Rattle.records.proofs.Order.{sorts_cases, sorts_not}
use Rattle.changes.specs.Change.{same_key, Agree, SameKeys}

same_parts : (f g l m : ℕ) → f ≡ g → l ≡ m → ◌≡◌ {A = Range} (record { first = f; last = l }) (record { first = g; last = m })
same_parts f g l m e k = rw (e, k)

same-range : (a b : Range) → sorts_after a b ≡ false → sorts_after b a ≡ false → a ≡ b
same-range a b e f =
    let x = sorts_not a b e in
    let y = sorts_not b a f in
    let first : a.first ≡ b.first = omega (arith, x.0, y.0) in
    let last : a.last ≡ b.last = omega (arith, x.1 first, y.1 (sym first)) in
    same_parts a.first b.first a.last b.last first last

not_itself : (a : Range) → sorts_after a a ≡ false
not_itself a = by-test (sorts_after a a) refl
  where
    no : (a.first < a.first) ⊎ ((a.first ≡ a.first) × (a.last < a.last)) → ⊥
    no (inl h) = omega arith
    no (inr h) = omega (arith, h.1)

    by-test : (t : Bool) → sorts_after a a ≡ t → t ≡ false
    by-test false k = refl
    by-test true k = absurd (no (sorts_cases a a k))

module _ (p r : Record) where
  agree : p.tag ≡ r.tag → sorted_after p r ≡ false → sorted_after r p ≡ false → Agree (is_block r.tag) p r
  unfolding sorted_after
  agree e x y = by-block (is_block r.tag) refl
    where
      by-block : (t : Bool) → is_block r.tag ≡ t → Agree t p r
      by-block true b = let d : is_block p.tag ≡ true = rw e b in same-range (range_of p) (range_of r) (rw b at x) (rw d at y)
      by-block false b =
          let d : is_block p.tag ≡ false = rw e b in
          at-most-both (key_of p) (key_of r) (not-false _ (rw d at y)) (not-false _ (rw b at x))

  neither : p.tag ≡ r.tag → Agree (is_block r.tag) p r → (sorted_after p r ≡ false) × (sorted_after r p ≡ false)
  unfolding sorted_after
  neither e a = by-block (is_block r.tag) refl a
    where
      by-block : (t : Bool) → is_block r.tag ≡ t → Agree t p r → (sorted_after p r ≡ false) × (sorted_after r p ≡ false)
      by-block true b k =
          let d : is_block p.tag ≡ true = rw e b in
          ((rw (b, k) (not_itself (range_of r))), (rw (d, k) (not_itself (range_of r))))
      by-block false b k =
          let d : is_block p.tag ≡ false = rw e b in
          ((rw (b, k, at-most-refl (key_of r))), (rw (d, k, at-most-refl (key_of r))))

pub same_keys : SameKeys
unfolding same_key
same_keys p r = ((λ e. by_tests (eqb p.tag r.tag) (sorted_after p r) (sorted_after r p) refl refl refl e), (λ k. back k.0 (neither p r k.0 k.1)))
  where
    by_tests : (t u v : Bool) → eqb p.tag r.tag ≡ t → sorted_after p r ≡ u → sorted_after r p ≡ v → (t && not u && not v) ≡ true
        → (p.tag ≡ r.tag) × Agree (is_block r.tag) p r
    by_tests true false false x y z k = let e : p.tag ≡ r.tag = eqb-true _ _ x in (e, agree p r e y z)
    by_tests true false true x y z k = absurd (false≢true k)
    by_tests true true v x y z k = absurd (false≢true k)
    by_tests false u v x y z k = absurd (false≢true k)

    back : p.tag ≡ r.tag → (sorted_after p r ≡ false) × (sorted_after r p ≡ false) → (eqb p.tag r.tag && not (sorted_after p r) && not (sorted_after r p)) ≡ true
    back e n = rw (eq-eqb p.tag r.tag e, n.0, n.1)
