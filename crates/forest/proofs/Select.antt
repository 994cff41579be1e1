-- Answers: the blocks that select finds, and the smallest and largest blocks with a property.
use Prim.Native.Nat.{ℕ, ◌≤◌}
use mathlib.Core.Bool.{Bool, true, false, not, cond}
use mathlib.Core.Logic.{◌⊎◌, inl, inr, ◌↔◌}
use mathlib.Core.Path.{◌≡◌, refl, sym, subst, ap, ◌∙◌}
use mathlib.Core.List.Memᴰ
use mathlib.Core.List.{List, [], ◌∷◌, map}
use native.Mathlib.Omega.{arith}
use lib.Dec.{T, T_not, eqb}
use borrow.Author.Tests.{eqb-true, eq-eqb, ne_eqb}
use Rattle.octets.specs.Lists.{◌∈◌, filter, keep}
use Rattle.address.specs.Ranges.{Range, strictly_covers, strictly_inside}
use Rattle.forest.specs.Blocks.{Block}
use Rattle.forest.specs.Relations.{is_best, select}
use Rattle.forest.specs.Scans.{first_passing, last_passing}
use Rattle.octets.proofs.Tests.{test, is_true, is_false, each, none_such}
use Rattle.address.proofs.Geometry.{Strictly, strictly_iff, inside-iff}
use Rattle.forest.proofs.Laminar.{Laminar, empty, cons, before-number, same_number}

-- select at a cons, by the test's value
module _ (f : Block → Bool) where
  pub select_kept : (x : Block) (bs : List Block) → T (f x) → select f (x ∷ bs) ≡ x.number ∷ select f bs
  unfolding select
  select_kept x bs t = ap (λ (v : Bool). map (λ (b : Block). b.number) (keep v x (filter f bs))) (is_true (f x) t)

  pub select-dropped : (x : Block) (bs : List Block) → (T (f x) → ⊥) → select f (x ∷ bs) ≡ select f bs
  unfolding select
  select-dropped x bs n = ap (λ (v : Bool). map (λ (b : Block). b.number) (keep v x (filter f bs))) (is_false (f x) n)

  pub select-none : (bs : List Block) → ((c : Block) → c ∈ bs → T (f c) → ⊥) → select f bs ≡ []
  unfolding select
  select-none [] n = refl
  select-none (x ∷ bs) n = select-dropped x bs (n x (Memᴰ.head refl)) ∙ select-none bs (λ c m. n c (Memᴰ.tail m))

  pub yes-select : (bs : List Block) {b : Block} → b ∈ bs → T (f b) → b.number ∈ select f bs
  yes-select [] m t = elim m [ ]
  yes-select (x ∷ bs) {b} (Memᴰ.head e) t = rw (select_kept x bs (subst (λ y. T (f y)) e t)) (Memᴰ.head (ap (λ (y : Block). y.number) e))
  yes-select (x ∷ bs) {b} (Memᴰ.tail m) t = go (test (f x)) (yes-select bs m t)
    where
      go : T (f x) ⊎ T (not (f x)) → b.number ∈ select f bs → b.number ∈ select f (x ∷ bs)
      go (inl s) r = rw (select_kept x bs s) (Memᴰ.tail r)
      go (inr s) r = rw (select-dropped x bs (T_not (f x) s)) r

  pub select_yes : (bs : List Block) {n : ℕ} → n ∈ select f bs → (b : Block) × (b ∈ bs) × T (f b) × (n ≡ b.number)
  unfolding select
  select_yes [] m = elim m [ ]
  select_yes (x ∷ bs) {n} m = go (test (f x)) (λ r. select_yes bs r)
    where
      go : T (f x) ⊎ T (not (f x)) → (n ∈ select f bs → (b : Block) × (b ∈ bs) × T (f b) × (n ≡ b.number)) → (b : Block) × (b ∈ (x ∷ bs)) × T (f b) × (n ≡ b.number)
      go (inl s) rest = kept (rw (select_kept x bs s) at m)
        where
          kept : n ∈ (x.number ∷ select f bs) → (b : Block) × (b ∈ (x ∷ bs)) × T (f b) × (n ≡ b.number)
          kept (Memᴰ.head e) = (x, Memᴰ.head refl, s, e)
          kept (Memᴰ.tail r) = let y = rest r in (y.0, Memᴰ.tail y.1, y.2, y.3)
      go (inr s) rest = let y = rest (rw (select-dropped x bs (T_not (f x) s)) at m) in (y.0, Memᴰ.tail y.1, y.2, y.3)

  pub select-one : {bs : List Block} → Laminar bs → {b : Block} → b ∈ bs → T (f b) → ((c : Block) → c ∈ bs → T (f c) → c ≡ b) → select f bs ≡ b.number ∷ []
  select-one empty m t only = elim m [ ]
  select-one (cons {b = x} {bs = bs} p before l) {b} (Memᴰ.head e) t only =
      select_kept x bs (subst (λ y. T (f y)) e t)
      ∙ ap (λ (ns : List ℕ). x.number ∷ ns) (select-none bs (λ c m s. let h = before-number x c (before c m) in let k = ap (λ (y : Block). y.number) (only c (Memᴰ.tail m) s ∙ e) in omega arith))
      ∙ ap (λ (y : Block). y.number ∷ []) (sym e)
  select-one (cons {b = x} {bs = bs} p before l) {b} (Memᴰ.tail m) t only =
      select-dropped x bs (λ s. let h = before-number x b (before b m) in let k = ap (λ (y : Block). y.number) (only x (Memᴰ.head refl) s) in omega arith)
      ∙ select-one l m t (λ c n. only c (Memᴰ.tail n))

  pub listed : {bs : List Block} → Laminar bs → {b : Block} → b ∈ bs → b.number ∈ select f bs → T (f b)
  listed {bs} l {b} m n = let r = select_yes bs n in subst (λ y. T (f y)) (sym (same_number l m r.1 r.3)) r.2

pub select-same : (f g : Block → Bool) (bs : List Block) → ((b : Block) → b ∈ bs → T (f b) ↔ T (g b)) → select f bs ≡ select g bs
unfolding select
select-same f g [] h = refl
select-same f g (x ∷ bs) h = go (test (f x)) (select-same f g bs (λ b m. h b (Memᴰ.tail m)))
  where
    go : T (f x) ⊎ T (not (f x)) → select f bs ≡ select g bs → select f (x ∷ bs) ≡ select g (x ∷ bs)
    go (inl t) e = select_kept f x bs t ∙ ap (λ (ns : List ℕ). x.number ∷ ns) e ∙ sym (select_kept g x bs ((h x (Memᴰ.head refl)).0 t))
    go (inr t) e = select-dropped f x bs (T_not (f x) t) ∙ e ∙ sym (select-dropped g x bs (λ s. T_not (f x) t ((h x (Memᴰ.head refl)).1 s)))

-- The third call at the record number of a registered block, and what an answer of it tells.
-- an answer for the range of the block with record number n, none where n names no block
unfoldable pub of_record : (Range → List ℕ) → List Block → ℕ → List ℕ
of_record answer [] n = []
of_record answer (b ∷ bs) n = cond (eqb b.number n) (answer b.range) (of_record answer bs n)

pub of_record_lem : (answer : Range → List ℕ) {bs : List Block} → Laminar bs → {b : Block} → b ∈ bs → of_record answer bs b.number ≡ answer b.range
unfolding of_record
of_record_lem answer empty m = elim m [ ]
of_record_lem answer (cons {b = x} {bs = bs} p before l) {b} (Memᴰ.head e) =
    rw (eq-eqb x.number b.number (ap (λ (y : Block). y.number) (sym e))) (ap (λ (y : Block). answer y.range) (sym e))
of_record_lem answer (cons {b = x} {bs = bs} p before l) {b} (Memᴰ.tail m) =
    rw (ne_eqb x.number b.number (λ e. let h = before-number x b (before b m) in omega arith)) (of_record_lem answer l m)

pub record_of_lem : (answer : Range → List ℕ) (bs : List Block) {c n : ℕ} → c ∈ of_record answer bs n → (b : Block) × (b ∈ bs) × (n ≡ b.number) × (c ∈ answer b.range)
unfolding of_record
record_of_lem answer [] m = elim m [ ]
record_of_lem answer (x ∷ bs) {c} {n} m = go (eqb x.number n) refl m (λ k. record_of_lem answer bs k)
  where
    go :
        (v : Bool) → eqb x.number n ≡ v → c ∈ cond v (answer x.range) (of_record answer bs n)
        → (c ∈ of_record answer bs n → (b : Block) × (b ∈ bs) × (n ≡ b.number) × (c ∈ answer b.range))
        → (b : Block) × (b ∈ (x ∷ bs)) × (n ≡ b.number) × (c ∈ answer b.range)
    go true e k rest = (x, Memᴰ.head refl, sym (eqb-true x.number n e), k)
    go false e k rest = let r = rest k in (r.0, Memᴰ.tail r.1, r.2, r.3)

-- The passing block that comes first in image order.
pub record First (f : Block → Bool) (bs : List Block) : Type 0 where
  pub block : Block
  pub registered : block ∈ bs
  pub passes : T (f block)
  pub first : (c : Block) → c ∈ bs → T (f c) → block.number ≤ c.number
  pub scanned : first_passing f bs ≡ block.number ∷ []

-- The passing block that comes last.
pub record Last (f : Block → Bool) (bs : List Block) : Type 0 where
  pub block : Block
  pub registered : block ∈ bs
  pub passes : T (f block)
  pub last : (c : Block) → c ∈ bs → T (f c) → c.number ≤ block.number
  pub scanned : (best : List ℕ) → last_passing f bs best ≡ block.number ∷ []

abbrev pub None : (Block → Bool) → List Block → Type 0
None f bs = (c : Block) → c ∈ bs → T (f c) → ⊥

module _ (f : Block → Bool) where
  pub first-none : (bs : List Block) → None f bs → first_passing f bs ≡ []
  first-none [] n = refl
  first-none (x ∷ bs) n = rw (is_false (f x) (n x (Memᴰ.head refl))) (first-none bs (λ c m. n c (Memᴰ.tail m)))

  pub last_none : (bs : List Block) (best : List ℕ) → None f bs → last_passing f bs best ≡ best
  last_none [] best n = refl
  last_none (x ∷ bs) best n = rw (is_false (f x) (n x (Memᴰ.head refl))) (last_none bs best (λ c m. n c (Memᴰ.tail m)))

  pub first_such : {bs : List Block} → Laminar bs → First f bs ⊎ None f bs
  first_such empty = inr (λ c m. elim m [ ])
  first_such (cons {b = x} {bs = bs} p before l) = go (test (f x)) (first_such l)
    where
      go : T (f x) ⊎ T (not (f x)) → First f bs ⊎ None f bs → First f (x ∷ bs) ⊎ None f (x ∷ bs)
      go (inl t) r =
          inl
          (record {
            block = x;
            registered = Memᴰ.head refl;
            passes = t;
            first = each (λ c. T (f c) → x.number ≤ c.number) (λ s. omega arith) (λ c m s. let h = before-number x c (before c m) in omega arith);
            scanned = rw (is_true (f x) t);
          })
      go (inr t) (inl r) =
          inl
          (record {
            block = r.block;
            registered = Memᴰ.tail r.registered;
            passes = r.passes;
            first = each (λ c. T (f c) → r.block.number ≤ c.number) (λ s. absurd (T_not (f x) t s)) r.first;
            scanned = rw (is_false (f x) (T_not (f x) t)) r.scanned;
          })
      go (inr t) (inr n) = inr (each (λ c. T (f c) → ⊥) (T_not (f x) t) n)

  pub last_such : {bs : List Block} → Laminar bs → Last f bs ⊎ None f bs
  last_such empty = inr (λ c m. elim m [ ])
  last_such (cons {b = x} {bs = bs} p before l) = go (test (f x)) (last_such l)
    where
      go : T (f x) ⊎ T (not (f x)) → Last f bs ⊎ None f bs → Last f (x ∷ bs) ⊎ None f (x ∷ bs)
      go t (inl r) =
          inl
          (record {
            block = r.block;
            registered = Memᴰ.tail r.registered;
            passes = r.passes;
            last = each (λ c. T (f c) → c.number ≤ r.block.number) (λ s. let h = before-number x r.block (before r.block r.registered) in omega arith) r.last;
            scanned = λ best. r.scanned (cond (f x) (x.number ∷ []) best);
          })
      go (inl t) (inr n) =
          inl
          (record {
            block = x;
            registered = Memᴰ.head refl;
            passes = t;
            last = each (λ c. T (f c) → c.number ≤ x.number) (λ s. omega arith) (λ c m s. absurd (n c m s));
            scanned = λ best. rw (is_true (f x) t) (last_none bs (x.number ∷ []) n);
          })
      go (inr t) (inr n) = inr (each (λ c. T (f c) → ⊥) (T_not (f x) t) n)

-- A test on ranges and the property that it decides; a test on two.
pub record Decides (p : Range → Bool) (P : Range → Type 0) : Type 0 where
  pub iff : (r : Range) → T (p r) ↔ P r

pub record Compares (t : Range → Range → Bool) (R : Range → Range → Type 0) : Type 0 where
  pub iff : (a b : Range) → T (t a b) ↔ R a b

abbrev pub around-test : Compares strictly_covers Strictly
around-test = record { iff = strictly_iff }

abbrev pub inside-test : Compares strictly_inside (λ a b. Strictly b a)
inside-test = record { iff = inside-iff }

pub record Best (Better : Range → Range → Type 0) (P : Range → Type 0) (bs : List Block) (b : Block) : Type 0 where
  pub has : P b.range
  pub unbeaten : (c : Block) → c ∈ bs → P c.range → Better c.range b.range → ⊥

-- a block that passes is not better than the best
pub unless_better :
    {Better : Range → Range → Type 0} {P : Range → Type 0} {bs : List Block} {b c : Block} {A : Type 0}
    → Best Better P bs b → c ∈ bs → P c.range → A ⊎ Better c.range b.range → A
unless_better h m p (inl a) = a
unless_better {c = c} h m p (inr k) = absurd (h.unbeaten c m p k)

pub best_iff :
    {better : Range → Range → Bool} {Better : Range → Range → Type 0} {p : Range → Bool} {P : Range → Type 0}
    → Compares better Better → Decides p P → (bs : List Block) (b : Block)
    → T (is_best better p bs b) ↔ Best Better P bs b
unfolding is_best
best_iff {better} {Better} {p} {P} e d bs b = (
  λ t.
      let s = (none_such (p b.range) (λ c. p c.range) (λ c. better c.range b.range) bs).0 t in
      record { has = (d.iff b.range).0 s.0; unbeaten = λ c m h i. s.1 c m ((d.iff c.range).1 h) ((e.iff c.range b.range).1 i) },
  λ s.
      (none_such (p b.range) (λ c. p c.range) (λ c. better c.range b.range) bs).1
      ((d.iff b.range).1 s.has, λ c m h i. s.unbeaten c m ((d.iff c.range).0 h) ((e.iff c.range b.range).0 i)),
)
