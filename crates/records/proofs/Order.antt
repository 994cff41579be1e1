-- The sorting of records is a strict order: transitive, and of two records with different keys one follows the other.
use mathlib.Core.Path.{◌≡◌, refl, sym, ◌∙◌}
use mathlib.Core.Bool.{Bool, true, false, not, cond, ◌&&◌, ◌||◌, false≢true}
use mathlib.Core.Logic.{◌⊎◌, inl, inr}
use mathlib.Core.List.{List}
use Prim.Native.Nat.{ℕ, ◌≤◌, ◌<◌}
use borrow.Author.Tests.{ltb-true, ltb-false, eqb-true, eqb-false, lt-ltb, eq-eqb, not-true, not-false}
use native.Mathlib.Omega.{arith}
use lib.Dec.{ltb, eqb}
use Rattle.registry.specs.Tags.{is_block}
use Rattle.octets.specs.Number.{at_most}
use Rattle.address.specs.Ranges.{Range, sorts_after}
use Rattle.octets.proofs.Order.{at-most_trans, after_trans}
use Rattle.octets.proofs.Connectives.{or_true}
use Rattle.records.specs.Record.{Record, range_of, key_of, sorted_after, follows}

-- Texts

texts_trans : (a b c : List ℕ) → not (at_most b a) ≡ true → not (at_most c b) ≡ true → not (at_most c a) ≡ true
texts_trans a b c e f = rw (after_trans a b c (not-true (at_most b a) e) (not-true (at_most c b) f))

texts-between : (a b c : List ℕ) → not (at_most c a) ≡ true → not (at_most b a) ≡ false → not (at_most c b) ≡ true
texts-between a b c e f = by-test (at_most c b) refl
  where
    by-test : (t : Bool) → at_most c b ≡ t → not t ≡ true
    by-test false k = refl
    by-test true k = absurd (false≢true (sym (not-true (at_most c a) e) ∙ at-most_trans c b a k (not-false (at_most b a) f)))

-- Ranges

pub sorts_cases : (a b : Range) → sorts_after a b ≡ true → (a.first < b.first) ⊎ ((a.first ≡ b.first) × (b.last < a.last))
unfolding sorts_after
sorts_cases a b e = by_tests (ltb a.first b.first) (eqb a.first b.first) (ltb b.last a.last) refl refl refl e
  where
    by_tests : (t u v : Bool) → ltb a.first b.first ≡ t → eqb a.first b.first ≡ u → ltb b.last a.last ≡ v → (t || (u && v)) ≡ true
        → (a.first < b.first) ⊎ ((a.first ≡ b.first) × (b.last < a.last))
    by_tests true u v x y z k = inl (ltb-true _ _ x)
    by_tests false true true x y z k = inr (eqb-true _ _ y, ltb-true _ _ z)
    by_tests false true false x y z k = absurd (false≢true k)
    by_tests false false v x y z k = absurd (false≢true k)

ranges_trans : (a b c : Range) → sorts_after a b ≡ true → sorts_after b c ≡ true → sorts_after a c ≡ true
unfolding sorts_after
ranges_trans a b c e f = by_cases (sorts_cases a b e) (sorts_cases b c f)
  where
    earlier : a.first < c.first → (ltb a.first c.first || (eqb a.first c.first && ltb c.last a.last)) ≡ true
    earlier h = rw (lt-ltb a.first c.first h)

    by_cases : (a.first < b.first) ⊎ ((a.first ≡ b.first) × (b.last < a.last)) → (b.first < c.first) ⊎ ((b.first ≡ c.first) × (c.last < b.last))
        → (ltb a.first c.first || (eqb a.first c.first && ltb c.last a.last)) ≡ true
    by_cases (inl p) (inl q) = earlier (omega arith)
    by_cases (inl p) (inr q) = earlier (omega (arith, q.0))
    by_cases (inr p) (inl q) = earlier (omega (arith, p.0))
    by_cases (inr p) (inr q) =
        rw (eq-eqb a.first c.first (p.0 ∙ q.0), lt-ltb c.last a.last (omega (arith, p.1, q.1))) (or_true (ltb a.first c.first))

pub sorts_not : (a b : Range) → sorts_after a b ≡ false → (b.first ≤ a.first) × (a.first ≡ b.first → a.last ≤ b.last)
unfolding sorts_after
sorts_not a b e = by_tests (ltb a.first b.first) (eqb a.first b.first) (ltb b.last a.last) refl refl refl e
  where
    by_tests : (t u v : Bool) → ltb a.first b.first ≡ t → eqb a.first b.first ≡ u → ltb b.last a.last ≡ v → (t || (u && v)) ≡ false
        → (b.first ≤ a.first) × (a.first ≡ b.first → a.last ≤ b.last)
    by_tests true u v x y z k = absurd (false≢true (sym k))
    by_tests false true true x y z k = absurd (false≢true (sym k))
    by_tests false true false x y z k = (ltb-false _ _ x, λ h. ltb-false _ _ z)
    by_tests false false v x y z k = (ltb-false _ _ x, λ h. absurd (eqb-false _ _ y h))

ranges-between : (a b c : Range) → sorts_after a c ≡ true → sorts_after a b ≡ false → sorts_after b c ≡ true
unfolding sorts_after
ranges-between a b c e f = by_cases (sorts_cases a c e) (sorts_not a b f).0 (sorts_not a b f).1
  where
    by_equal : (t : Bool) → eqb b.first c.first ≡ t → (a.first ≡ c.first) → (c.last < a.last) → b.first ≤ a.first → (a.first ≡ b.first → a.last ≤ b.last)
        → (ltb b.first c.first || (eqb b.first c.first && ltb c.last b.last)) ≡ true
    by_equal true x p q h k =
        let y : b.first ≡ c.first = eqb-true _ _ x in
        let z : a.last ≤ b.last = k (p ∙ sym y) in
        rw (x, lt-ltb c.last b.last (omega arith)) (or_true (ltb b.first c.first))
    by_equal false x p q h k = rw (lt-ltb b.first c.first (less h p (eqb-false _ _ x)))
      where
        less : b.first ≤ a.first → a.first ≡ c.first → (b.first ≡ c.first → ⊥) → b.first < c.first
        less u v w = omega arith

    by_cases : (a.first < c.first) ⊎ ((a.first ≡ c.first) × (c.last < a.last)) → b.first ≤ a.first → (a.first ≡ b.first → a.last ≤ b.last)
        → (ltb b.first c.first || (eqb b.first c.first && ltb c.last b.last)) ≡ true
    by_cases (inl p) h k = rw (lt-ltb b.first c.first (omega arith))
    by_cases (inr p) h k = by_equal (eqb b.first c.first) refl p.0 p.1 h k

-- Records

sorted_trans : (p q r : Record) → q.tag ≡ r.tag → sorted_after p q ≡ true → sorted_after q r ≡ true → sorted_after p r ≡ true
unfolding sorted_after
sorted_trans p q r y e f = by-block (is_block r.tag) refl
  where
    by-block : (t : Bool) → is_block r.tag ≡ t → cond (is_block r.tag) (sorts_after (range_of p) (range_of r)) (not (at_most (key_of r) (key_of p))) ≡ true
    by-block true b =
        let d : is_block q.tag ≡ true = rw y b in
        rw b (ranges_trans (range_of p) (range_of q) (range_of r) (rw d at e) (rw b at f))
    by-block false b =
        let d : is_block q.tag ≡ false = rw y b in
        rw b (texts_trans (key_of p) (key_of q) (key_of r) (rw d at e) (rw b at f))

-- a record that comes after p comes after each of its tag that does not
pub sorted-between : (p q r : Record) → q.tag ≡ r.tag → sorted_after p r ≡ true → sorted_after p q ≡ false → sorted_after q r ≡ true
unfolding sorted_after
sorted-between p q r y e f = by-block (is_block r.tag) refl
  where
    by-block : (t : Bool) → is_block r.tag ≡ t → cond (is_block r.tag) (sorts_after (range_of q) (range_of r)) (not (at_most (key_of r) (key_of q))) ≡ true
    by-block true b =
        let d : is_block q.tag ≡ true = rw y b in
        rw b (ranges-between (range_of p) (range_of q) (range_of r) (rw b at e) (rw d at f))
    by-block false b =
        let d : is_block q.tag ≡ false = rw y b in
        rw b (texts-between (key_of p) (key_of q) (key_of r) (rw b at e) (rw d at f))

pub follows-cases : (p r : Record) → follows p r ≡ true → (p.tag < r.tag) ⊎ ((p.tag ≡ r.tag) × (sorted_after p r ≡ true))
unfolding follows
follows-cases p r e = by_tests (ltb p.tag r.tag) (eqb p.tag r.tag) refl refl e
  where
    by_tests : (t u : Bool) → ltb p.tag r.tag ≡ t → eqb p.tag r.tag ≡ u → (t || (u && sorted_after p r)) ≡ true
        → (p.tag < r.tag) ⊎ ((p.tag ≡ r.tag) × (sorted_after p r ≡ true))
    by_tests true u x y k = inl (ltb-true _ _ x)
    by_tests false true x y k = inr (eqb-true _ _ y, k)
    by_tests false false x y k = absurd (false≢true k)

pub follows-lower : (p r : Record) → p.tag < r.tag → follows p r ≡ true
unfolding follows
follows-lower p r h = rw (lt-ltb p.tag r.tag h)

pub follows_same : (p r : Record) → p.tag ≡ r.tag → sorted_after p r ≡ true → follows p r ≡ true
unfolding follows
follows_same p r h k = rw (eq-eqb p.tag r.tag h, k) (or_true (ltb p.tag r.tag))

pub follows_trans : (p q r : Record) → follows p q ≡ true → follows q r ≡ true → follows p r ≡ true
follows_trans p q r e f = by_cases (follows-cases p q e) (follows-cases q r f)
  where
    by_cases : (p.tag < q.tag) ⊎ ((p.tag ≡ q.tag) × (sorted_after p q ≡ true)) → (q.tag < r.tag) ⊎ ((q.tag ≡ r.tag) × (sorted_after q r ≡ true))
        → follows p r ≡ true
    by_cases (inl x) (inl y) = follows-lower p r (omega arith)
    by_cases (inl x) (inr y) = follows-lower p r (omega (arith, y.0))
    by_cases (inr x) (inl y) = follows-lower p r (omega (arith, x.0))
    by_cases (inr x) (inr y) = follows_same p r (x.0 ∙ y.0) (sorted_trans p q r y.0 x.1 y.1)
