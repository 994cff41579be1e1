-- The open blocks stand for all earlier records, and go on doing so with each record. `lasts d` is the last address of open block d.
use mathlib.Core.Path.{◌≡◌, refl, sym, ◌∙◌}
use mathlib.Core.Bool.{Bool, true, false, cond, ◌&&◌}
use mathlib.Core.List.{List, [], ◌∷◌}
use Prim.Native.Nat.{ℕ, suc, ◌+◌, ◌≤◌, ◌<◌}
use borrow.Author.Tests.{le-leb, leb-true, leb-false, eqb-true, eqb-false}
use native.Mathlib.Omega.{arith}
use native.Mathlib.Nat.{le_refl, le_trans, lt_of_lt_of_le}
use native.Mathlib.Numerals.{add-one}
use lib.Dec.{leb, eqb}
use lib.ListN.{length, get_or, set}
use lib.Seq.{get_or-set_same, get_or-set_other}
use Rattle.registry.specs.Tags.{is_block}
use Rattle.records.specs.Record.{Record, range_of, first_of, last_of}
use Rattle.records.specs.Judge.{crosses_any}
use Rattle.records.proofs.Shapes.{a_block, no_block}
use Rattle.records.proofs.Accepted.{After}
use Rattle.records.proofs.Crossing.{crosses-ended, crosses-around, crosses-other, crosses-no-block, crosses-out}
use Rattle.nesting.specs.Nest.{nest_of}
use Rattle.placing.specs.Step.{nest_in}
use Rattle.std.specs.Prelude.{Option, Some, None}
use Rattle.nesting.proofs.Families.{low-family}

-- all end at l or after it
abbrev pub Above : ℕ → List Record → Type 0
Above l [] = Unit {0}
Above l (e ∷ es) = (l ≤ last_of e) × Above l es

above-less : (l m : ℕ) (es : List Record) → l ≤ m → Above m es → Above l es
above-less l m [] h a = tt
above-less l m (e ∷ es) h a = (le_trans h a.0, above-less l m es h a.1)

-- open blocks of one tag, the innermost first, that start at `bound` or before it
pub data Chain (lasts : ℕ → ℕ) (tag bound : ℕ) : ℕ → List Record → Type 0 where
  empty : Chain lasts tag bound 0 []
  inner : {d : ℕ} {e : Record} {es : List Record} → e.tag ≡ tag → first_of e ≤ bound → last_of e ≡ lasts d → Above (last_of e) es
      → Chain lasts tag bound d es → Chain lasts tag bound (suc d) (e ∷ es)

module _ {lasts : ℕ → ℕ} {tag bound : ℕ} where
  moved : {d : ℕ} {es : List Record} (next : ℕ → ℕ) (to : ℕ) → bound ≤ to → ((i : ℕ) → i < d → next i ≡ lasts i) → Chain lasts tag bound d es → Chain next tag to d es
  moved next to h f empty = empty
  moved next to h f (inner t b l a c) = inner t (le_trans b h) (l ∙ sym (f _ (omega arith))) a (moved next to h (λ i k. f i (omega (arith, k))) c)

  other_tag : {d : ℕ} {es : List Record} → Chain lasts tag bound d es → (r : Record) → (tag ≡ r.tag → ⊥) → crosses_any es r ≡ false
  unfolding crosses_any
  other_tag empty r h = refl
  other_tag (inner {e = e} t b l a c) r h = rw (crosses-other e r (λ z. h (sym t ∙ z))) (other_tag c r h)

  none-crossed : {d : ℕ} {es : List Record} → Chain lasts tag bound d es → (r : Record) → bound ≤ first_of r → Above (last_of r) es → crosses_any es r ≡ false
  unfolding crosses_any
  none-crossed empty r h a = refl
  none-crossed (inner {e = e} t b l i c) r h a = rw (crosses-around e r (le_trans b h) a.0) (none-crossed c r h a.1)

no_crossing : (es : List Record) (r : Record) → is_block r.tag ≡ false → crosses_any es r ≡ false
unfolding crosses_any
no_crossing [] r h = refl
no_crossing (e ∷ es) r h = rw (crosses-no-block e r h) (no_crossing es r h)

-- what is left of the open blocks around a block r of their tag, or that it overlaps one
record Left (lasts : ℕ → ℕ) (tag bound : ℕ) (r : Record) (es : List Record) (depth u : ℕ) : Type 0 where
  blocks : List Record
  few : u ≤ depth
  chain : Chain lasts tag bound u blocks
  around : Above (last_of r) blocks
  same : (x : Record) → first_of r ≤ first_of x → crosses_any es x ≡ crosses_any blocks x

abbrev Found : (ℕ → ℕ) → ℕ → ℕ → Record → List Record → ℕ → Option ℕ → Type 0
Found lasts tag bound r es depth (Some u) = Left lasts tag bound r es depth u
Found lasts tag bound r es depth None = crosses_any es r ≡ true

module _ (lasts : ℕ → ℕ) (tag bound : ℕ) (r : Record) (g : first_of r ≤ last_of r) (h : bound ≤ first_of r) (t : tag ≡ r.tag) (b : is_block r.tag ≡ true) where
  ended : (e : Record) (es : List Record) (d : ℕ) → last_of e < first_of r → (n : Option ℕ) → Found lasts tag bound r es d n → Found lasts tag bound r (e ∷ es) (suc d) n
  unfolding crosses_any
  ended e es d l (Some u) f = record {
    blocks = f.blocks;
    few = omega (arith, f.few);
    chain = f.chain;
    around = f.around;
    same = λ x k. rw (crosses-ended e x (lt_of_lt_of_le l k)) (f.same x k);
  }
  ended e es d l None f = rw (crosses-ended e r l) f

  found : {depth : ℕ} {es : List Record} → Chain lasts tag bound depth es → Found lasts tag bound r es depth (nest_of lasts (range_of r) depth)
  unfolding crosses_any
  found empty = record { blocks = []; few = omega arith; chain = empty; around = tt; same = λ x k. refl }
  found (inner {d} {e} {es} i j k a c) = by_tests (leb (first_of r) (lasts d)) (leb (last_of r) (lasts d)) refl refl (found c)
    where
      by_tests : (u v : Bool) → leb (first_of r) (lasts d) ≡ u → leb (last_of r) (lasts d) ≡ v → Found lasts tag bound r es d (nest_of lasts (range_of r) d)
          → Found lasts tag bound r (e ∷ es) (suc d) (cond u (cond v (Some (suc d)) None) (nest_of lasts (range_of r) d))
      by_tests true true x y f =
          let l : last_of r ≤ last_of e = rw k (leb-true _ _ y) in
          record { blocks = e ∷ es; few = omega arith; chain = inner i j k a c; around = (l, above-less _ _ es l a); same = λ z w. refl }
      by_tests true false x y f = rw (crosses-out e r b (i ∙ t) (le_trans j h) g (rw k (leb-true _ _ x)) (rw k (leb-false _ _ y)))
      by_tests false v x y f = ended e es d (rw k (leb-false _ _ x)) (nest_of lasts (range_of r) d) f

-- Of the records so far the latest first. The record before has the tag `before` and starts at `bound`; only a block's open blocks are known.
pub record Open (earlier : List Record) (before bound : ℕ) (lasts : ℕ → ℕ) (depth : ℕ) : Type 0 where
  pub blocks : List Record
  pub same : (x : Record) → is_block x.tag ≡ true → After before bound x → crosses_any earlier x ≡ crosses_any blocks x
  pub chain : before ≤ 18 → Chain lasts before bound depth blocks

pub open_none : (bound : ℕ) (lasts : ℕ → ℕ) → Open [] 0 bound lasts 0
open_none bound lasts = record { blocks = []; same = λ x b a. refl; chain = λ h. empty }

-- a record that overlaps none of the earlier ones goes under u of the open blocks, and is open itself from then on
pub record Goes (earlier : List Record) (before : ℕ) (lasts : ℕ → ℕ) (depth : ℕ) (r : Record) (u : ℕ) : Type 0 where
  pub few : u ≤ depth
  pub clear : crosses_any earlier r ≡ false
  pub family : 0 < u → before ≡ r.tag
  pub onward : (next : ℕ → ℕ) → ((d : ℕ) → d < u → next d ≡ lasts d) → (r.tag ≤ 18 → next u ≡ last_of r) → Open (r ∷ earlier) r.tag (first_of r) next (u + 1)

abbrev pub Nested : List Record → ℕ → (ℕ → ℕ) → ℕ → Record → Option ℕ → Type 0
Nested earlier before lasts depth r (Some u) = Goes earlier before lasts depth r u
Nested earlier before lasts depth r None = crosses_any earlier r ≡ true

module _ {earlier : List Record} {before bound : ℕ} {lasts : ℕ → ℕ} {depth : ℕ} (o : Open earlier before bound lasts depth)
    (r : Record) (k : 16 ≤ r.tag) (a : After before bound r) (g : first_of r ≤ last_of r) where
  -- what comes after r comes after what is before r
  later : (x : Record) → is_block x.tag ≡ true → After r.tag (first_of r) x → After before bound x
  later x b y = record {
    tags = le_trans a.tags y.tags;
    firsts = λ e w. (let f : r.tag ≡ x.tag = omega (arith, a.tags, y.tags, e) in
        le_trans (a.firsts (e ∙ sym f) (rw f b)) (y.firsts f w));
  }

  -- r is opened among those that are left
  opened : (left : List Record) (next : ℕ → ℕ) (u : ℕ) → (r.tag ≤ 18 → next u ≡ last_of r) → Above (last_of r) left
      → ((x : Record) → is_block x.tag ≡ true → After r.tag (first_of r) x → crosses_any earlier x ≡ crosses_any left x)
      → (r.tag ≤ 18 → Chain next r.tag (first_of r) u left) → Open (r ∷ earlier) r.tag (first_of r) next (u + 1)
  unfolding crosses_any
  opened left next u l w s c =
      rw (add-one u) (record {
        blocks = r ∷ left;
        same = λ x b y. rw (s x b y);
        chain = λ h. inner refl (le_refl (first_of r)) (sym (l h)) w (c h);
      })

  alone : crosses_any earlier r ≡ false → ((x : Record) → is_block x.tag ≡ true → After r.tag (first_of r) x → crosses_any earlier x ≡ false)
      → Goes earlier before lasts depth r 0
  unfolding crosses_any
  alone c s = record {
    few = omega arith;
    clear = c;
    family = λ h. absurd (omega (arith, h));
    onward = λ next f l. opened [] next 0 l tt s (λ h. empty);
  }

  named : 18 < r.tag → Goes earlier before lasts depth r 0
  named h = alone (no_crossing earlier r (no_block r.tag h)) (λ x b y. absurd (omega (arith, low-family x.tag b, y.tags, h)))

  module _ (h : r.tag ≤ 18) where
    block : is_block r.tag ≡ true
    block = a_block r.tag k h

    chained : Chain lasts before bound depth o.blocks
    chained = o.chain (le_trans a.tags h)

    other : (before ≡ r.tag → ⊥) → Goes earlier before lasts depth r 0
    other n =
        alone (o.same r block a ∙ other_tag chained r n)
        (λ x b y. o.same x b (later x b y) ∙ other_tag chained x (λ e. n (omega (arith, a.tags, y.tags, e))))

    module _ (e : before ≡ r.tag) where
      starts : bound ≤ first_of r
      starts = a.firsts e block

      by-nest : (n : Option ℕ) → Found lasts before bound r o.blocks depth n → Nested earlier before lasts depth r n
      by-nest (Some u) f = record {
        few = f.few;
        clear = o.same r block a ∙ f.same r (le_refl _) ∙ none-crossed f.chain r starts f.around;
        family = λ z. e;
        onward = λ next w l. opened f.blocks next u l f.around (λ x b y. o.same x b (later x b y) ∙ still x b y (eqb r.tag x.tag) refl)
            (λ z. (rw e at (moved next (first_of r) starts w f.chain)));
      }
        where
          still : (x : Record) → is_block x.tag ≡ true → After r.tag (first_of r) x → (t : Bool) → eqb r.tag x.tag ≡ t → crosses_any o.blocks x ≡ crosses_any f.blocks x
          still x b y true z = f.same x (y.firsts (eqb-true _ _ z) b)
          still x b y false z =
              let n : before ≡ x.tag → ⊥ = λ i. eqb-false _ _ z (sym e ∙ i) in
              other_tag chained x n ∙ sym (other_tag f.chain x n)
      by-nest None f = o.same r block a ∙ f

  pub nests : Nested earlier before lasts depth r (nest_in lasts before r depth)
  nests = rw (le-leb 0x10 r.tag k) (by_tags (leb r.tag 0x12) (eqb before r.tag) refl refl)
    where
      by_tags : (t v : Bool) → leb r.tag 0x12 ≡ t → eqb before r.tag ≡ v → Nested earlier before lasts depth r (cond (t && v) (nest_of lasts (range_of r) depth) (Some 0))
      by_tags true true x y =
          let h = leb-true _ _ x in
          let e = eqb-true _ _ y in
          by-nest h e (nest_of lasts (range_of r) depth) (found lasts before bound r g (starts h e) e (block h) (chained h))
      by_tags true false x y = other (leb-true _ _ x) (eqb-false _ _ y)
      by_tags false v x y = named (leb-false _ _ x)

-- what holds of the first u numbers of a stack and of one more
pub pushed : (P : ℕ → Type 0) (stack : List ℕ) (u v : ℕ) → u < length stack → P v → ((d : ℕ) → d < u → P (get_or stack d 0))
    → (d : ℕ) → d < u + 1 → P (get_or (set stack u v) d 0)
pushed P stack u v h k o d l = by_number (eqb d u) refl
  where
    by_number : (t : Bool) → eqb d u ≡ t → P (get_or (set stack u v) d 0)
    by_number true e = rw (eqb-true d u e, get_or-set_same stack u v 0 h) k
    by_number false e = rw (get_or-set_other stack u d v 0 (eqb-false d u e)) (o d (omega (arith, l, eqb-false d u e)))
