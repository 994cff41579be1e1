-- Demand 3, from the defect rules.
use Prim.Native.Nat.{ℕ, zero, suc, ◌+◌, ◌≤◌, ◌<◌}
use mathlib.Core.Bool.{Bool, not, ◌&&◌}
use mathlib.Core.Logic.{◌⊎◌, inl, inr, ◌↔◌}
use mathlib.Core.Path.{◌≡◌, refl, sym, subst, ap, ◌∙◌}
use mathlib.Core.List.Memᴰ
use mathlib.Core.List.{List, [], ◌∷◌}
use native.Mathlib.Omega.{arith}
use native.Mathlib.Decide.{dec_lt}
use lib.Dec.{T, not_T}
use lib.ListN.{length}
use Rattle.octets.specs.Lists.{◌∈◌}
use Rattle.address.specs.Ranges.{Range, covers, equals, strictly_inside, overlaps, well_formed}
use Rattle.forest.specs.Blocks.{Block}
use Rattle.forest.specs.Defects.{accepted}
use Rattle.forest.specs.Relations.{select, smallest, largest, lookup, up, top, down}
use Rattle.forest.specs.Forest.{Registered, AllRegistered, Steps, none, step, Climb, ReachedOnce, Finds, FoundInside, Forest}
use Rattle.octets.proofs.Tests.{T_and}
use Rattle.address.proofs.Geometry.{Proper, Covers, Strictly, proper, covers-iff, equals-iff, inside-iff, overlaps-iff}
use Rattle.forest.proofs.Laminar.{Laminar, cons, before-number, accepted-laminar, around, left, Placed, same, ahead, behind, placed, is-proper, same_number, around-first, chain, around_or_inside}
use Rattle.forest.proofs.Select.{of_record, Best, unless_better, Decides, First, None, first_such, select_yes, of_record_lem, record_of_lem}
use Rattle.forest.proofs.Answers.{first-largest, Inside, Answer, found, missing, by_number, lookup-listed, up-listed, down-listed, up-members, down-members, lookup-answer, up-answer, top-answer, Covering, Around, Within, up_is}

abbrev up_of : List Block → ℕ → List ℕ
up_of bs = of_record (up bs) bs

abbrev down_of : List Block → ℕ → List ℕ
down_of bs = of_record (down bs) bs

-- an answer that holds one block, read as membership
in_answer : {n : ℕ} {ns : List ℕ} → ns ≡ n ∷ [] → n ∈ ns
in_answer {n} e = rw e (Memᴰ.head refl)

only_one : (ns : List ℕ) {x y : ℕ} → length ns ≤ 1 → x ∈ ns → y ∈ ns → x ≡ y
only_one [] h i j = absurd (Memᴰ.not-nil i)
only_one (n ∷ []) h i j = Memᴰ.eq_of_singleton i ∙ sym (Memᴰ.eq_of_singleton j)
only_one (n ∷ m ∷ ns) h i j = absurd (omega arith)

-- what select finds are record numbers of blocks
pub selected : (f : Block → Bool) (bs : List Block) → AllRegistered bs (select f bs)
selected f bs n i = let r = select_yes f bs i in record { block = r.0; member = r.1; numbered = r.3 }

all-registered : (bs : List Block) (q : Range) → AllRegistered bs (lookup bs q) × AllRegistered bs (up bs q) × AllRegistered bs (down bs q) × AllRegistered bs (top bs q)
unfolding lookup up down top smallest largest
all-registered bs q = (selected _ bs, selected _ bs, selected _ bs, selected _ bs)

in_up : (bs : List Block) (q : Range) → AllRegistered bs (up bs q)
in_up bs q = (all-registered bs q).1

in_down : (bs : List Block) (q : Range) → AllRegistered bs (down bs q)
in_down bs q = (all-registered bs q).2

-- where a block stands in the list
position : {b : Block} {bs : List Block} → b ∈ bs → ℕ
position (Memᴰ.head e) = 0
position (Memᴰ.tail m) = suc (position m)

position-below : {b : Block} {bs : List Block} (m : b ∈ bs) → position m < length bs
unfolding position
position-below (Memᴰ.head e) = omega arith
position-below (Memᴰ.tail m) = let h = position-below m in omega arith

position_ascends : {bs : List Block} → Laminar bs → {a b : Block} (m : a ∈ bs) (n : b ∈ bs) → a.number < b.number → position m < position n
unfolding position
position_ascends Rattle.forest.proofs.Laminar.empty m n h = elim m [ ]
position_ascends (cons {b = x} p f l) (Memᴰ.head e) (Memᴰ.head g) h = absurd (let k = ap (λ (y : Block). y.number) (e ∙ sym g) in omega arith)
position_ascends (cons p f l) (Memᴰ.head e) (Memᴰ.tail n) h = omega arith
position_ascends (cons {b = x} p f l) {a} {b} (Memᴰ.tail m) (Memᴰ.head g) h =
    absurd (let j = before-number x a (f a m) in let k = ap (λ (y : Block). y.number) g in omega arith)
position_ascends (cons p f l) (Memᴰ.tail m) (Memᴰ.tail n) h = let k = position_ascends l m n h in omega arith

module _ {bs : List Block} (l : Laminar bs) where
  distinct : (a b : Block) → a ∈ bs → b ∈ bs → T (equals a.range b.range) → a ≡ b
  distinct a b m n t = go (placed l m n) ((equals-iff a.range b.range).0 t) (is-proper l m)
    where
      go : Placed a b → (a.range.first ≡ b.range.first) × (a.range.last ≡ b.range.last) → Proper a.range → a ≡ b
      go (same p) e pa = p
      go (ahead (around h g)) e pa = absurd (omega arith)
      go (ahead (left h g)) e pa = absurd (omega arith)
      go (behind (around h g)) e pa = absurd (omega arith)
      go (behind (left h g)) e pa = absurd (omega arith)

  nested_or_disjoint :
      (a b : Block) → a ∈ bs → b ∈ bs
      → T (covers a.range b.range) ⊎ (T (covers b.range a.range) ⊎ T (not (overlaps a.range b.range)))
  nested_or_disjoint a b m n = go (placed l m n)
    where
      go : Placed a b → T (covers a.range b.range) ⊎ (T (covers b.range a.range) ⊎ T (not (overlaps a.range b.range)))
      go (same p) = inl ((covers-iff a.range b.range).1 (rw p (omega arith)))
      go (ahead (around h g)) = inl ((covers-iff a.range b.range).1 (omega arith))
      go (ahead (left h g)) = inr (inr (not_T (overlaps a.range b.range) (λ t. let o = (overlaps-iff a.range b.range).0 t in omega arith)))
      go (behind (around h g)) = inr (inl ((covers-iff b.range a.range).1 (omega arith)))
      go (behind (left h g)) = inr (inr (not_T (overlaps a.range b.range) (λ t. let o = (overlaps-iff a.range b.range).0 t in omega arith)))

  at_most_one : {P : Range → Type 0} {Good : Block → Type 0} {ns : List ℕ} → Answer bs P Good ns → length ns ≤ 1
  at_most_one (found {b = b} m g e) = rw e (omega arith)
  at_most_one (missing n e) = rw e (omega arith)

  one_found : (q : Range) → T (well_formed q) → (length (lookup bs q) ≤ 1) × (length (up bs q) ≤ 1) × (length (top bs q) ≤ 1)
  one_found q w =
      let pq = (proper q).0 w in
      (at_most_one (lookup-answer l q pq), at_most_one (up-answer l q pq), at_most_one (top-answer l q pq))

  -- a step upward goes to an earlier block
  up-earlier : {a c : ℕ} → c ∈ up_of bs a → (b : Block) × (b ∈ bs) × (c ≡ b.number) × (c < a)
  up-earlier i =
      let r = record_of_lem (up bs) bs i in
      let s = up-members l r.0.range r.3 in
      let h = around-first l s.1 r.1 s.3.has in
      let e = r.2 in
      let f = s.2 in
      (s.0, s.1, s.2, omega arith)

  falls : {a b n : ℕ} → Steps (up_of bs) a n b → n + b ≤ a
  falls none = omega arith
  falls (step i s) = let h = (up-earlier i).3 in let k = falls s in omega arith

  no_cycle : (a n : ℕ) → Steps (up_of bs) a (suc n) a → ⊥
  no_cycle a n s = let h = falls s in omega arith

  at-most-position : {x : Block} (m : x ∈ bs) {b n : ℕ} → Steps (up_of bs) x.number n b → n ≤ position m
  at-most-position m s = go s m refl
    where
      go : {a b n : ℕ} → Steps (up_of bs) a n b → {x : Block} (m : x ∈ bs) → a ≡ x.number → n ≤ position m
      go none m e = omega arith
      go (step i s) m e =
          let r = up-earlier i in
          let f = r.2 in
          let g = r.3 in
          let h = position_ascends l r.1 m (omega arith) in
          let k = go s r.1 r.2 in
          omega arith

  bounded : (q : Range) (a b n : ℕ) → T (well_formed q) → a ∈ up bs q → Steps (up_of bs) a n b → suc n ≤ length bs
  bounded q a b n w i s =
      let r = up-members l q i in
      let h = at-most-position r.1 (subst (λ (c : ℕ). Steps (up_of bs) c n b) r.2 s) in
      let k = position-below r.1 in
      omega arith

  down-up : (a b : Block) → a ∈ bs → b ∈ bs → (b.number ∈ down bs a.range) ↔ (up bs b.range ≡ a.number ∷ [])
  down-up a b m n = (
    λ i.
        let best = (down-listed l a.range n).0 i in
        go (up-answer l b.range (is-proper l n)) (record { has = best.has; unbeaten = λ c k h s. best.unbeaten c k s h }),
    λ e.
        let best = (up-listed l b.range m).0 (in_answer e) in
        (down-listed l a.range n).1 (record { has = best.has; unbeaten = λ c k h s. best.unbeaten c k s h }),
  )
    where
      go : Answer bs (Around b.range) (Best Inside (Around b.range) bs) (up bs b.range) → Best Inside (Around b.range) bs a → up bs b.range ≡ a.number ∷ []
      go (found {b = c} k g e) h = e ∙ ap (λ (y : Block). y.number ∷ []) (up_is l b.range (is-proper l n) k m g h)
      go (missing empty e) h = absurd (empty a m h.has)

  -- a block around q is the top t or strictly inside it
  below_top : (q : Range) {b t : Block} → Proper q → b ∈ bs → t ∈ bs → Strictly b.range q → Best Strictly (Around q) bs t → (b ≡ t) ⊎ Strictly t.range b.range
  below_top q {b} {t} pq mb mt hb st = go (dec_lt t.number b.number)
    where
      ht : Strictly t.range q
      ht = st.has

      go : Dec (t.number < b.number) → (b ≡ t) ⊎ Strictly t.range b.range
      go (yes h) = inr (chain l q pq mt mb (ht.0, ht.1) (hb.0, hb.1) h)
      go (no h) = inl (by_number l mb mt (λ k. st.unbeaten b mb hb (chain l q pq mb mt (hb.0, hb.1) (ht.0, ht.1) k)) h)

  -- Going up from q, whose up is b and whose top is t. The record numbers fall, so n bounds the steps.
  climb :
      (n : ℕ) (q : Range) (b t : Block) → b.number < n → Proper q → b ∈ bs → t ∈ bs
      → up bs q ≡ b.number ∷ [] → Strictly b.range q → Best Strictly (Around q) bs t → Climb bs (up_of bs) q t.number
  climb zero q b t h pq mb mt e hb st = absurd (omega arith)
  climb (suc n) q b t h pq mb mt e hb st =
      go (up-answer l b.range (is-proper l mb)) (below_top q pq mb mt hb st) (λ c k mc ec hc tb. climb n b.range c t k (is-proper l mb) mc mt ec hc tb)
    where
      go :
          Answer bs (Around b.range) (Best Inside (Around b.range) bs) (up bs b.range) → (b ≡ t) ⊎ Strictly t.range b.range
          → ((c : Block) → c.number < n → c ∈ bs → up bs b.range ≡ c.number ∷ [] → Strictly c.range b.range → Best Strictly (Around b.range) bs t → Climb bs (up_of bs) b.range t.number)
          → Climb bs (up_of bs) q t.number
      go (found {b = c} mc sc ec) (inl p) rest =
          absurd (let k : Strictly c.range b.range = sc.has in st.unbeaten c mc (omega arith) (subst (λ (y : Block). Strictly c.range y.range) p k))
      go (found {b = c} mc sc ec) (inr k) rest =
          let j = around-first l mc mb sc.has in
          let r =
          rest c (omega arith) mc ec sc.has
          (record { has = k; unbeaten = λ d md hd i. st.unbeaten d md (omega arith) i })
          in
          record {
            from = b.number;
            steps = suc r.steps;
            starts = in_answer e;
            climbs = step {a = b.number} {c = r.from} (rw (of_record_lem (up bs) l mb) r.starts) r.climbs;
            ends = r.ends;
          }
      go (missing alone eb) (inl p) rest =
          record {
            from = b.number;
            steps = 0;
            starts = in_answer e;
            climbs = subst (λ (y : Block). Steps (up_of bs) b.number 0 y.number) p none;
            ends = subst (λ (y : Block). up_of bs y.number ≡ []) p (of_record_lem (up bs) l mb ∙ eb);
          }
      go (missing alone eb) (inr k) rest = absurd (alone t mt k)

  up_top :
      (q : Range) → T (well_formed q)
      → ((up bs q ≡ []) × (top bs q ≡ [])) ⊎ ((end : ℕ) × (top bs q ≡ end ∷ []) × Climb bs (up_of bs) q end)
  up_top q w = go (up-answer l q ((proper q).0 w)) (top-answer l q ((proper q).0 w))
    where
      go :
          Answer bs (Around q) (Best Inside (Around q) bs) (up bs q) → Answer bs (Around q) (Best Strictly (Around q) bs) (top bs q)
          → ((up bs q ≡ []) × (top bs q ≡ [])) ⊎ ((end : ℕ) × (top bs q ≡ end ∷ []) × Climb bs (up_of bs) q end)
      go (found {b = b} mb sb e) (found {b = t} mt st et) = inr (t.number, et, climb (suc b.number) q b t (omega arith) ((proper q).0 w) mb mt e sb.has st)
      go (found {b = b} mb sb e) (missing alone et) = absurd (alone b mb sb.has)
      go (missing alone e) (found {b = t} mt st et) = absurd (alone t mt st.has)
      go (missing alone e) (missing also et) = inl (e, et)

  steps_cover : {x y : Block} {n : ℕ} → x ∈ bs → y ∈ bs → Steps (down_of bs) x.number n y.number → Covers x.range y.range
  steps_cover {x} {y} mx my s = go s mx refl refl
    where
      go : {a b n : ℕ} → Steps (down_of bs) a n b → {x : Block} → x ∈ bs → a ≡ x.number → b ≡ y.number → Covers x.range y.range
      go none {x} mx e f = rw (same_number l mx my (sym e ∙ f)) (omega arith)
      go (step {c = c} i s) {x} mx e f =
          let r = down-members l x.range (subst (λ (ns : List ℕ). c ∈ ns) (ap (down_of bs) e ∙ of_record_lem (down bs) l mx) i) in
          let h : Strictly x.range r.0.range = r.3.has in
          let k : Covers r.0.range y.range = go s r.1 r.2 f in
          omega arith

  -- The largest block strictly inside q that covers b is in the down list of q.
  pub next_down :
      (q : Range) (b : Block) → b ∈ bs → Strictly q b.range
      → (m : Block) × (m ∈ bs) × (m.number ∈ down bs q) × Covers m.range b.range
  next_down q b mb hb = go (first_such (λ c. strictly_inside c.range q && covers c.range b.range) l)
    where
      between : Decides (λ r. strictly_inside r q && covers r b.range) (λ r. Strictly q r × Covers r b.range)
      between = record {
        iff = λ r. (
          λ t. let s = (T_and (strictly_inside r q) (covers r b.range)).0 t in ((inside-iff r q).0 s.0, (covers-iff r b.range).0 s.1),
          λ h. (T_and (strictly_inside r q) (covers r b.range)).1 ((inside-iff r q).1 h.0, (covers-iff r b.range).1 h.1),
        );
      }

      go :
          First (λ c. strictly_inside c.range q && covers c.range b.range) bs ⊎ None (λ c. strictly_inside c.range q && covers c.range b.range) bs
          → (m : Block) × (m ∈ bs) × (m.number ∈ down bs q) × Covers m.range b.range
      go (inl r) =
          let best = first-largest l between r in
          let h : Strictly q r.block.range × Covers r.block.range b.range = best.has in (
            r.block,
            r.registered,
            (down-listed l q r.registered).1 (record { has = h.0; unbeaten = λ c n k s. best.unbeaten c n (k, omega arith) s }),
            h.1,
          )
      go (inr n) = absurd (n b mb ((between.iff b.range).1 (hb, omega arith)))

  -- Going down from m to a block that it covers; the record numbers rise, so n bounds the steps.
  descend : (n : ℕ) (m b : Block) → b.number < m.number + n → m ∈ bs → b ∈ bs → Covers m.range b.range → (k : ℕ) × Steps (down_of bs) m.number k b.number
  descend zero m b h mm mb c =
      absurd (let s : Strictly b.range m.range = chain l b.range (is-proper l mb) mb mm (omega arith) c (omega arith) in omega arith)
  descend (suc n) m b h mm mb c = go (dec_lt m.number b.number) (λ d k md cd. descend n d b k md mb cd)
    where
      go : Dec (m.number < b.number) → ((d : Block) → b.number < d.number + n → d ∈ bs → Covers d.range b.range → (k : ℕ) × Steps (down_of bs) d.number k b.number) → (k : ℕ) × Steps (down_of bs) m.number k b.number
      go (yes k) rest =
          let r = next_down m.range b mb (chain l b.range (is-proper l mb) mm mb c (omega arith) k) in
          let j = around-first l mm r.1 ((down-listed l m.range r.1).0 r.2).has in
          let s = rest r.0 (omega arith) r.1 r.3 in
          (suc s.0, step {n = s.0} (subst (λ (ns : List ℕ). r.0.number ∈ ns) (sym (of_record_lem (down bs) l mm)) r.2) s.1)
      go (no k) rest =
          let p : m ≡ b = by_number l mm mb k (λ j. let s : Strictly b.range m.range = chain l b.range (is-proper l mb) mb mm (omega arith) c j in omega arith) in
          (0, subst (λ (y : Block). Steps (down_of bs) m.number 0 y.number) p none)

  -- Two members of one down list that cover one block are one.
  one-member :
      (q : Range) (b : Block) → b ∈ bs → {m o : Block} → m ∈ bs → o ∈ bs → Best Strictly (Within q) bs m → Best Strictly (Within q) bs o
      → Covers m.range b.range → Covers o.range b.range → o ≡ m
  one-member q b mb {m} {o} mm mo hm ho cm co =
      by_number l mo mm (λ k. hm.unbeaten o mo ho.has (chain l b.range (is-proper l mb) mo mm co cm k))
      (λ k. ho.unbeaten m mm hm.has (chain l b.range (is-proper l mb) mm mo cm co k))

  inside-reached : (q : Range) (b : Block) → T (well_formed q) → b ∈ bs → T (strictly_inside b.range q) → ReachedOnce bs (down_of bs) q b.number
  inside-reached q b w mb t = go (next_down q b mb ((inside-iff b.range q).0 t))
    where
      go : (m : Block) × (m ∈ bs) × (m.number ∈ down bs q) × Covers m.range b.range → ReachedOnce bs (down_of bs) q b.number
      go r =
          let s = descend (suc b.number) r.0 b (omega arith) r.1 mb r.3 in
          record {
            member = r.0.number;
            steps = s.0;
            listed = r.2;
            reaches = s.1;
            only = λ o n io so.
                let p = down-members l q io in
                p.2
                ∙ ap (λ (y : Block). y.number)
                (one-member q b mb r.1 p.1 ((down-listed l q r.1).0 r.2) p.3 r.3
                (steps_cover p.1 mb (subst (λ (c : ℕ). Steps (down_of bs) c n b.number) p.2 so)));
          }

  finds_inside : (outer inner : Range) → Proper inner → Covers outer inner → (f : Finds bs outer) → FoundInside bs outer inner
  finds_inside outer inner pi co f = go (lookup-answer l inner pi)
    where
      a : Block
      a = f.block

      ca : Covers a.range inner
      ca = let h : Covers a.range outer = ((lookup-listed l outer f.member).0 (in_answer f.answers)).has in omega arith

      go : Answer bs (Covering inner) (Best Inside (Covering inner) bs) (lookup bs inner) → FoundInside bs outer inner
      go (found {b = b} mb sb eb) =
          record {
            around = f;
            found = record { block = b; member = mb; answers = eb };
            inside = (covers-iff a.range b.range).1 (unless_better sb f.member ca (around_or_inside l inner pi f.member mb ca sb.has));
          }
      go (missing alone eb) = absurd (alone a f.member ca)

  lookup-inside :
      (outer inner : Range) (n : ℕ) → T (well_formed outer) → T (well_formed inner) → T (covers outer inner)
      → n ∈ lookup bs outer → FoundInside bs outer inner
  lookup-inside outer inner n wo wi co i = go (lookup-answer l outer ((proper outer).0 wo))
    where
      go : Answer bs (Covering outer) (Best Inside (Covering outer) bs) (lookup bs outer) → FoundInside bs outer inner
      go (found {b = a} m s e) = finds_inside outer inner ((proper inner).0 wi) ((covers-iff outer inner).0 co) (record { block = a; member = m; answers = e })
      go (missing alone e) = absurd (Memᴰ.not-nil (rw e at i))

  -- Walks by other answers, which agree on the record numbers of blocks

  module _ (f g : ℕ → List ℕ) (same : (b : Block) → b ∈ bs → f b.number ≡ g b.number) (stays : (b : Block) → b ∈ bs → AllRegistered bs (f b.number)) where
    same_at : {n : ℕ} → Registered bs n → f n ≡ g n
    same_at r = ap f r.numbered ∙ same r.block r.member ∙ ap g (sym r.numbered)

    next-at : {n c : ℕ} → Registered bs n → c ∈ f n → Registered bs c
    next-at {c = c} r i = stays r.block r.member c (subst (λ (k : ℕ). c ∈ f k) r.numbered i)

    same-steps : {a n b : ℕ} → Registered bs a → Steps f a n b → Steps g a n b
    same-steps r none = none
    same-steps r (step {c = c} i s) = step (subst (λ (ns : List ℕ). c ∈ ns) (same_at r) i) (same-steps (next-at r i) s)

    end-registered : {a n b : ℕ} → Registered bs a → Steps f a n b → Registered bs b
    end-registered r none = r
    end-registered r (step i s) = end-registered (next-at r i) s

  module _
      (upward downward topward : ℕ → List ℕ)
      (same-answers : (b : Block) → b ∈ bs → (upward b.number ≡ up bs b.range) × (downward b.number ≡ down bs b.range) × (topward b.number ≡ top bs b.range))
    where
      ups : (b : Block) → b ∈ bs → upward b.number ≡ up bs b.range
      ups b m = (same-answers b m).0

      downs : (b : Block) → b ∈ bs → downward b.number ≡ down bs b.range
      downs b m = (same-answers b m).1

      to-up : {a n b : ℕ} → Registered bs a → Steps upward a n b → Steps (up_of bs) a n b
      to-up = same-steps upward (up_of bs) (λ b m. ups b m ∙ sym (of_record_lem (up bs) l m)) (λ b m. rw (ups b m) (in_up bs b.range))

      to-down : {a n b : ℕ} → Registered bs a → Steps downward a n b → Steps (down_of bs) a n b
      to-down = same-steps downward (down_of bs) (λ b m. downs b m ∙ sym (of_record_lem (down bs) l m)) (λ b m. rw (downs b m) (in_down bs b.range))

      up_same : (b : Block) → b ∈ bs → up_of bs b.number ≡ upward b.number
      up_same b m = of_record_lem (up bs) l m ∙ sym (ups b m)

      up-stays : (b : Block) → b ∈ bs → AllRegistered bs (up_of bs b.number)
      up-stays b m = rw (of_record_lem (up bs) l m) (in_up bs b.range)

      down-same : (b : Block) → b ∈ bs → down_of bs b.number ≡ downward b.number
      down-same b m = of_record_lem (down bs) l m ∙ sym (downs b m)

      down-stays : (b : Block) → b ∈ bs → AllRegistered bs (down_of bs b.number)
      down-stays b m = rw (of_record_lem (down bs) l m) (in_down bs b.range)

      climb-by : {q : Range} {end : ℕ} → Climb bs (up_of bs) q end → Climb bs upward q end
      climb-by {q} c =
          let r : Registered bs c.from = in_up bs q c.from c.starts in
          record {
            from = c.from;
            steps = c.steps;
            starts = c.starts;
            climbs = same-steps (up_of bs) upward up_same up-stays r c.climbs;
            ends = sym (same_at (up_of bs) upward up_same up-stays (end-registered (up_of bs) upward up_same up-stays r c.climbs)) ∙ c.ends;
          }

      up-top-by :
          (q : Range) → ((up bs q ≡ []) × (top bs q ≡ [])) ⊎ ((end : ℕ) × (top bs q ≡ end ∷ []) × Climb bs (up_of bs) q end)
          → ((up bs q ≡ []) × (top bs q ≡ [])) ⊎ ((end : ℕ) × (top bs q ≡ end ∷ []) × Climb bs upward q end)
      up-top-by q (inl e) = inl e
      up-top-by q (inr c) = inr (c.0, c.1, climb-by c.2)

      -- two walks from one record number, each as far as it goes, end at one
      same_end : {a b c m n : ℕ} → Registered bs a → Steps upward a m b → upward b ≡ [] → Steps upward a n c → upward c ≡ [] → b ≡ c
      same_end r none e none g = refl
      same_end r none e (step i s) g = absurd (Memᴰ.not-nil (rw e at i))
      same_end r (step i s) e none g = absurd (Memᴰ.not-nil (rw g at i))
      same_end {c = c} r (step {c = x} i s) e (step {c = y} {n = n} j t) g =
          let k : upward r.block.number ≡ up bs r.block.range = ups r.block r.member in
          let one : length (up bs r.block.range) ≤ 1 = at_most_one (up-answer l r.block.range (is-proper l r.member)) in
          let p : y ≡ x = only_one _ one (rw (r.numbered, k) at j) (rw (r.numbered, k) at i) in
          same_end (in_up bs r.block.range x (rw (r.numbered, k) at i)) s e (subst (λ (z : ℕ). Steps upward z n c) p t) g

      climb-top-by : (q : Range) (end : ℕ) → T (well_formed q) → Climb bs upward q end → top bs q ≡ end ∷ []
      climb-top-by q end w c = go (up-top-by q (up_top q w))
        where
          go : ((up bs q ≡ []) × (top bs q ≡ [])) ⊎ ((end : ℕ) × (top bs q ≡ end ∷ []) × Climb bs upward q end) → top bs q ≡ end ∷ []
          go (inl e) = absurd (Memᴰ.not-nil (rw e.0 at c.starts))
          go (inr (last, e, d)) =
              let p : d.from ≡ c.from = only_one _ (one_found q w).1 d.starts c.starts in
              e
              ∙ ap (λ (n : ℕ). n ∷ [])
              (same_end (in_up bs q c.from c.starts) (subst (λ (n : ℕ). Steps upward n d.steps last) p d.climbs) d.ends c.climbs c.ends)

      reached-by : {q : Range} {b : ℕ} → ReachedOnce bs (down_of bs) q b → ReachedOnce bs downward q b
      reached-by {q} r =
          record {
            member = r.member;
            steps = r.steps;
            listed = r.listed;
            reaches = same-steps (down_of bs) downward down-same down-stays (in_down bs q r.member r.listed) r.reaches;
            only = λ o n i s. r.only o n i (to-down (in_down bs q o i) s);
          }

      forest-by : Forest bs upward downward topward
      forest-by =
          record {
            well_formed_lem = λ b m. (proper b.range).1 (is-proper l m);
            distinct = distinct;
            nested_or_disjoint = nested_or_disjoint;
            registered = all-registered bs;
            by_number = same-answers;
            one_found = one_found;
            no_cycle = λ a n m s. no_cycle a.number n (to-up (record { block = a; member = m; numbered = refl }) s);
            bounded = λ q a b n w i s. bounded q a b n w i (to-up (in_up bs q a i) s);
            down-up = λ a b m n. (
              λ i. ups b n ∙ (down-up a b m n).0 (subst (λ (ns : List ℕ). b.number ∈ ns) (downs a m) i),
              λ e. subst (λ (ns : List ℕ). b.number ∈ ns) (sym (downs a m)) ((down-up a b m n).1 (sym (ups b n) ∙ e)),
            );
            up_top = λ q w. up-top-by q (up_top q w);
            climb-top = climb-top-by;
            inside-reached = λ q b w m t. reached-by (inside-reached q b w m t);
            lookup-inside = lookup-inside;
          }

-- The theorem for the blocks of one family, and answers for record numbers that are those for the block's range.
pub forest :
    (bs : List Block) → T (accepted bs) → (upward downward topward : ℕ → List ℕ)
    → ((b : Block) → b ∈ bs → (upward b.number ≡ up bs b.range) × (downward b.number ≡ down bs b.range) × (topward b.number ≡ top bs b.range))
    → Forest bs upward downward topward
forest bs t upward downward topward answers = forest-by (accepted-laminar bs t) upward downward topward answers

-- In a forest each block has at most one up.
pub one_up :
    {bs : List Block} {upward downward topward : ℕ → List ℕ} → Forest bs upward downward topward
    → (b : Block) → b ∈ bs → length (upward b.number) ≤ 1
one_up f b m = rw (f.by_number b m).0 (f.one_found b.range (f.well_formed_lem b m)).1
