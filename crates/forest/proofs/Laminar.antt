-- What rules 5, 6 and 7 leave of a list of blocks, in the form the proofs use: each block before each later one, strictly around it or wholly left of it.
use Prim.Native.Nat.{◌≤◌, ◌<◌}
use mathlib.Core.Bool.{not, ◌&&◌}
use mathlib.Core.Logic.{◌⊎◌, inl, inr}
use mathlib.Core.Path.{◌≡◌, refl, sym, subst, ap, ◌∙◌}
use mathlib.Core.List.Memᴰ
use mathlib.Core.List.{List, [], ◌∷◌}
use native.Mathlib.Omega.{arith}
use native.Mathlib.Decide.{dec_lt}
use lib.Dec.{T, T_not, not_T, ltb, eqb, ltb→lt, eqb→eq}
use Rattle.octets.specs.Lists.{◌∈◌, any}
use Rattle.address.specs.Ranges.{Range, covers, overlaps, well_formed, sorts_after, crosses}
use Rattle.forest.specs.Blocks.{Block}
use Rattle.forest.specs.Defects.{in_sequence, admissible, accepted_after, accepted}
use Rattle.octets.proofs.Tests.{T_and, T_or, test, each, yes-any}
use Rattle.address.proofs.Geometry.{Proper, Covers, Strictly, proper, covers-iff, overlaps-iff}

-- the sorting order, which is transitive
pub record Follows (a b : Block) : Type 0 where
  pub numbered : a.number < b.number
  pub sorted : (a.range.first < b.range.first) ⊎ ((a.range.first ≡ b.range.first) × (b.range.last < a.range.last))

follows-yes : (a b : Block) → T (ltb a.number b.number && sorts_after a.range b.range) → Follows a b
unfolding sorts_after
follows-yes a b t =
    let s = (T_and (ltb a.number b.number) (sorts_after a.range b.range)).0 t in
    record {
      numbered = ltb→lt a.number b.number s.0;
      sorted = go (T_or (ltb a.range.first b.range.first) (eqb a.range.first b.range.first && ltb b.range.last a.range.last) s.1);
    }
  where
    go :
        T (ltb a.range.first b.range.first) ⊎ T (eqb a.range.first b.range.first && ltb b.range.last a.range.last)
        → (a.range.first < b.range.first) ⊎ ((a.range.first ≡ b.range.first) × (b.range.last < a.range.last))
    go (inl t) = inl (ltb→lt a.range.first b.range.first t)
    go (inr t) =
        let s = (T_and (eqb a.range.first b.range.first) (ltb b.range.last a.range.last)).0 t in
        inr (eqb→eq a.range.first b.range.first s.0, ltb→lt b.range.last a.range.last s.1)

follows_trans : (a b c : Block) → Follows a b → Follows b c → Follows a c
follows_trans a b c f g = record { numbered = omega arith; sorted = go f.sorted g.sorted }
  where
    go :
        (a.range.first < b.range.first) ⊎ ((a.range.first ≡ b.range.first) × (b.range.last < a.range.last))
        → (b.range.first < c.range.first) ⊎ ((b.range.first ≡ c.range.first) × (c.range.last < b.range.last))
        → (a.range.first < c.range.first) ⊎ ((a.range.first ≡ c.range.first) × (c.range.last < a.range.last))
    go (inl h) (inl k) = inl (omega arith)
    go (inl h) (inr k) = inl (omega arith)
    go (inr h) (inl k) = inl (omega arith)
    go (inr h) (inr k) = inr (omega arith)

-- what is known of the blocks a and b, a before b in the image
pub data Before (a b : Block) : Type 0 where
  around : a.number < b.number → Strictly a.range b.range → Before a b
  left : a.number < b.number → a.range.last < b.range.first → Before a b

pub before-number : (a b : Block) → Before a b → a.number < b.number
before-number a b (around h g) = h
before-number a b (left h g) = h

before : (a b : Block) → Proper b.range → Follows a b → T (not (crosses a.range b.range)) → Before a b
unfolding crosses
before a b p f t = go (dec_lt a.range.last b.range.first) (test (covers a.range b.range)) f.sorted
  where
    go :
        Dec (a.range.last < b.range.first) → T (covers a.range b.range) ⊎ T (not (covers a.range b.range))
        → (a.range.first < b.range.first) ⊎ ((a.range.first ≡ b.range.first) × (b.range.last < a.range.last))
        → Before a b
    go (yes h) c s = left f.numbered h
    go (no h) (inl c) (inl s) = let k = (covers-iff a.range b.range).0 c in around f.numbered (omega arith)
    go (no h) (inl c) (inr s) = let k = (covers-iff a.range b.range).0 c in around f.numbered (omega arith)
    go (no h) (inr n) s =
        let o : T (overlaps a.range b.range) = (overlaps-iff a.range b.range).1 (low s, omega arith) in
        absurd
        (T_not (overlaps a.range b.range && not (covers a.range b.range)) t
        ((T_and (overlaps a.range b.range) (not (covers a.range b.range))).1 (o, n)))
      where
        low : (a.range.first < b.range.first) ⊎ ((a.range.first ≡ b.range.first) × (b.range.last < a.range.last)) → a.range.first ≤ b.range.last
        low (inl s) = omega arith
        low (inr s) = omega arith

-- every block is proper, and before each later one
pub data Laminar : List Block → Type 0 where
  empty : Laminar []
  cons : {b : Block} {bs : List Block} → Proper b.range → ((c : Block) → c ∈ bs → Before b c) → Laminar bs → Laminar (b ∷ bs)

-- each of the earlier blocks, the latest first, is followed by those before it in the list
data Chain : List Block → Type 0 where
  none : Chain []
  link : {a : Block} {earlier : List Block} → ((e : Block) → e ∈ earlier → Follows e a) → Chain (a ∷ earlier)

-- by transitivity, a block in order follows each earlier one
follows-all : {earlier : List Block} → Chain earlier → (b : Block) → T (in_sequence earlier b) → (e : Block) → e ∈ earlier → Follows e b
unfolding in_sequence
follows-all none b t e m = elim m [ ]
follows-all (link {a = a} f) b t e m =
    each (λ e. Follows e b) (follows-yes a b t) (λ e m. follows_trans e a b (f e m) (follows-yes a b t)) e m

-- what accepted_after tells of the later blocks, among themselves and towards the earlier ones
record Later (earlier bs : List Block) : Type 0 where
  laminar : Laminar bs
  apart : (e b : Block) → e ∈ earlier → b ∈ bs → Before e b

later : (earlier bs : List Block) → Chain earlier → T (accepted_after earlier bs) → Later earlier bs
unfolding accepted_after admissible
later earlier [] chain t = record { laminar = empty; apart = λ e b m n. elim n [ ] }
later earlier (b ∷ bs) chain t =
    let s = (T_and (admissible earlier b) (accepted_after (b ∷ earlier) bs)).0 t in
    let a = (T_and (well_formed b.range && in_sequence earlier b) (not (any (λ a. crosses a.range b.range) earlier))).0 s.0 in
    let w = (T_and (well_formed b.range) (in_sequence earlier b)).0 a.0 in
    go ((proper b.range).0 w.0) (follows-all chain b w.1) (T_not (any (λ a. crosses a.range b.range) earlier) a.1) (later (b ∷ earlier) bs (link (follows-all chain b w.1)) s.1)
  where
    go :
        Proper b.range → ((e : Block) → e ∈ earlier → Follows e b) → (T (any (λ a. crosses a.range b.range) earlier) → ⊥)
        → Later (b ∷ earlier) bs → Later earlier (b ∷ bs)
    go p f uncrossed r =
        record {
          laminar = cons p (λ c m. r.apart b c (Memᴰ.head refl) m) r.laminar;
          apart = λ e c m n.
              each (λ c. Before e c)
              (before e b p (f e m) (not_T (crosses e.range b.range) (λ x. uncrossed (yes-any (λ a. crosses a.range b.range) m x))))
              (λ c n. r.apart e c (Memᴰ.tail m) n) c n;
        }

pub accepted-laminar : (bs : List Block) → T (accepted bs) → Laminar bs
unfolding accepted
accepted-laminar bs t = (later [] bs none t).laminar

-- where two registered blocks stand: one and the same, or one of them before the other
pub data Placed (a b : Block) : Type 0 where
  same : a ≡ b → Placed a b
  ahead : Before a b → Placed a b
  behind : Before b a → Placed a b

pub placed : {bs : List Block} → Laminar bs → {a b : Block} → a ∈ bs → b ∈ bs → Placed a b
placed empty m n = elim m [ ]
placed (cons p f l) (Memᴰ.head e) (Memᴰ.head g) = same (e ∙ sym g)
placed (cons p f l) {a} {b} (Memᴰ.head e) (Memᴰ.tail n) = ahead (subst (λ y. Before y b) (sym e) (f b n))
placed (cons p f l) {a} {b} (Memᴰ.tail m) (Memᴰ.head g) = behind (subst (λ y. Before y a) (sym g) (f a m))
placed (cons p f l) (Memᴰ.tail m) (Memᴰ.tail n) = placed l m n

pub is-proper : {bs : List Block} → Laminar bs → {a : Block} → a ∈ bs → Proper a.range
is-proper empty m = elim m [ ]
is-proper (cons p f l) (Memᴰ.head e) = subst (λ y. Proper y.range) (sym e) p
is-proper (cons p f l) (Memᴰ.tail m) = is-proper l m

module _ {bs : List Block} (l : Laminar bs) where
  -- a record number names one block
  pub same_number : {a b : Block} → a ∈ bs → b ∈ bs → a.number ≡ b.number → a ≡ b
  same_number {a} {b} m n e = go (placed l m n)
    where
      go : Placed a b → a ≡ b
      go (same p) = p
      go (ahead (around h g)) = absurd (omega arith)
      go (ahead (left h g)) = absurd (omega arith)
      go (behind (around h g)) = absurd (omega arith)
      go (behind (left h g)) = absurd (omega arith)

  -- a block strictly around another comes before it
  pub around-first : {a b : Block} → a ∈ bs → b ∈ bs → Strictly a.range b.range → a.number < b.number
  around-first {a} {b} m n s = go (placed l m n) (is-proper l n)
    where
      go : Placed a b → Proper b.range → a.number < b.number
      go (same p) pb = absurd (let q : Strictly b.range b.range = subst (λ (y : Block). Strictly y.range b.range) p s in omega arith)
      go (ahead (around h g)) pb = h
      go (ahead (left h g)) pb = h
      go (behind (around h g)) pb = absurd (omega arith)
      go (behind (left h g)) pb = absurd (omega arith)

  -- of two blocks that cover one range, the earlier is strictly around the later
  pub chain : {a b : Block} (q : Range) → Proper q → a ∈ bs → b ∈ bs → Covers a.range q → Covers b.range q → a.number < b.number → Strictly a.range b.range
  chain {a} {b} q pq m n ca cb h = go (placed l m n)
    where
      go : Placed a b → Strictly a.range b.range
      go (same p) = absurd (let e = ap (λ (y : Block). y.number) p in omega arith)
      go (ahead (around k g)) = g
      go (ahead (left k g)) = absurd (omega arith)
      go (behind (around k g)) = absurd (omega arith)
      go (behind (left k g)) = absurd (omega arith)

  -- of two blocks that cover one range, one covers the other
  pub around_or_inside : {a b : Block} (q : Range) → Proper q → a ∈ bs → b ∈ bs → Covers a.range q → Covers b.range q → Covers a.range b.range ⊎ Strictly b.range a.range
  around_or_inside {a} {b} q pq m n ca cb = go (placed l m n)
    where
      go : Placed a b → Covers a.range b.range ⊎ Strictly b.range a.range
      go (same p) = inl (rw p (omega arith))
      go (ahead (around k g)) = inl (omega arith)
      go (ahead (left k g)) = absurd (omega arith)
      go (behind (around k g)) = inr g
      go (behind (left k g)) = absurd (omega arith)
