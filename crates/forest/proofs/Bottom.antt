-- Bottom: the addresses that holds_some tries are enough.
use Prim.Native.Nat.{ℕ, suc, ◌≤◌, max, min}
use mathlib.Core.Bool.{Bool, true, false, not, ◌&&◌}
use mathlib.Core.Logic.{◌⊎◌, inl, inr, ◌↔◌}
use mathlib.Core.Path.{◌≡◌, refl, sym, ap}
use mathlib.Core.List.Memᴰ
use mathlib.Core.List.{List, [], ◌∷◌, map}
use native.Mathlib.Omega.{arith}
use native.Mathlib.Decide.{dec_le}
use lib.Dec.{T, T_not, leb, ltb, leb→le, le→leb, ltb→lt, nltb→le}
use Rattle.octets.specs.Lists.{◌∈◌, any}
use Rattle.address.specs.Ranges.{Range, single, covers, strictly_inside}
use Rattle.forest.specs.Blocks.{Block}
use Rattle.forest.specs.Defects.{accepted}
use Rattle.forest.specs.Bottom.{BottomIs}
use Rattle.forest.specs.Relations.{is_best, select, smallest, lookup, candidates, holds_some, only_if, bottom}
use Rattle.octets.proofs.Tests.{T_and, any-yes, yes-any, each, test, is_true, is_false}
use Rattle.address.proofs.Geometry.{Covers, Strictly, covers-iff, inside-iff}
use Rattle.forest.specs.Scans.{gap_pass, gap_in}
use Rattle.forest.proofs.Laminar.{Laminar, empty, cons, Before, around, left, accepted-laminar}
use Rattle.forest.proofs.Select.{Best, best_iff, inside-test, select-same, listed, yes-select}
use Rattle.forest.proofs.Answers.{Inside, Covering, covering, lookup-listed, answer-is, one-smallest}

-- the greatest of s and the numbers cs that is at most x
record Greatest (x s : ℕ) (cs : List ℕ) : Type 0 where
  value : ℕ
  listed : value ∈ (s ∷ cs)
  from : s ≤ value
  upto : value ≤ x
  greatest : (c : ℕ) → c ∈ cs → c ≤ x → c ≤ value

greatest-below : (x s : ℕ) (cs : List ℕ) → s ≤ x → Greatest x s cs
greatest-below x s [] h = record { value = s; listed = Memᴰ.head refl; from = omega arith; upto = h; greatest = λ c m. elim m [ ] }
greatest-below x s (d ∷ cs) h = go (greatest-below x s cs h) (dec_le d x)
  where
    past : {v : ℕ} → v ∈ (s ∷ cs) → v ∈ (s ∷ d ∷ cs)
    past (Memᴰ.head e) = Memᴰ.head e
    past (Memᴰ.tail m) = Memᴰ.tail (Memᴰ.tail m)

    go : Greatest x s cs → Dec (d ≤ x) → Greatest x s (d ∷ cs)
    go r (yes k) = pick (dec_le d r.value)
      where
        pick : Dec (d ≤ r.value) → Greatest x s (d ∷ cs)
        pick (yes j) = record { value = r.value; listed = past r.listed; from = r.from; upto = r.upto; greatest = each (λ c. c ≤ x → c ≤ r.value) (λ i. j) r.greatest }
        pick (no j) =
            record {
              value = d;
              listed = Memᴰ.tail (Memᴰ.head refl);
              from = let i = r.from in omega arith;
              upto = k;
              greatest = each (λ c. c ≤ x → c ≤ d) (λ i. omega arith) (λ c m i. let o = r.greatest c m i in omega arith);
            }
    go r (no k) = record { value = r.value; listed = past r.listed; from = r.from; upto = r.upto; greatest = each (λ c. c ≤ x → c ≤ r.value) (λ i. absurd (k i)) r.greatest }

-- b is the smallest block that holds x, an address of q
pub record Holds (bs : List Block) (q : Range) (b : Block) (x : ℕ) : Type 0 where
  pub inside : T (covers q (single x))
  pub smallest : T (is_best strictly_inside (λ r. covers r (single x)) bs b)

-- With x, the greatest candidate that is at most x is such an address too: a block strictly inside b that holds it holds x, or ends before x.
tried : (bs : List Block) (q : Range) (b : Block) (x : ℕ) → Holds bs q b x → (y : ℕ) × (y ∈ candidates bs q b) × Holds bs q b y
unfolding candidates single
tried bs q b x h = go ((covers-iff q (single x)).0 h.inside) ((best_iff inside-test (covering (single x)) bs b).0 h.smallest)
  where
    ends : List ℕ
    ends = map (λ (c : Block). suc c.range.last) bs

    at : Covers q (single x) → Covers b.range (single x) → ((c : Block) → c ∈ bs → Covers c.range (single x) → Strictly b.range c.range → ⊥)
        → Greatest x (max q.first b.range.first) ends → (y : ℕ) × (y ∈ candidates bs q b) × Holds bs q b y
    at hq hb alone r = (
      r.value,
      r.listed,
      record {
        inside = (covers-iff q (single r.value)).1 (omega arith);
        smallest = (best_iff inside-test (covering (single r.value)) bs b).1 (record { has = omega arith; unbeaten = λ c m k s. clash c m k s (dec_le x c.range.last) });
      },
    )
      where
        clash : (c : Block) → c ∈ bs → Covers c.range (single r.value) → Strictly b.range c.range → Dec (x ≤ c.range.last) → ⊥
        clash c m k s (yes i) = alone c m (omega arith) s
        clash c m k s (no i) = let g = r.greatest (suc c.range.last) (Memᴰ.map (λ (c : Block). suc c.range.last) m) (omega arith) in omega arith

    go : Covers q (single x) → Best Inside (Covering (single x)) bs b → (y : ℕ) × (y ∈ candidates bs q b) × Holds bs q b y
    go hq hb = at hq hb.has hb.unbeaten (greatest-below x (max q.first b.range.first) ends (let k : Covers b.range (single x) = hb.has in omega arith))

pub holds-some : (bs : List Block) (q : Range) (b : Block) → T (holds_some bs q b) ↔ ((x : ℕ) × Holds bs q b x)
unfolding holds_some
holds-some bs q b = (
  λ t.
      let r = any-yes (λ x. covers q (single x) && is_best strictly_inside (λ r. covers r (single x)) bs b) (candidates bs q b) t in
      let y = r.0 in
      let s = (T_and (covers q (single y)) (is_best strictly_inside (λ r. covers r (single y)) bs b)).0 r.2 in
      (y, record { inside = s.0; smallest = s.1 }),
  λ h.
      let r = tried bs q b h.0 h.1 in
      yes-any (λ x. covers q (single x) && is_best strictly_inside (λ r. covers r (single x)) bs b) r.1
      ((T_and (covers q (single r.0)) (is_best strictly_inside (λ s. covers s (single r.0)) bs b)).1 (r.2.inside, r.2.smallest)),
)

-- gap_pass finds an address from free to limit that no block strictly inside b holds.
record Gap (b : Block) (free limit : ℕ) (bs : List Block) : Type 0 where
  at : ℕ
  above : free ≤ at
  below : at ≤ limit
  unheld : (c : Block) → c ∈ bs → Strictly b.range c.range → Covers c.range (single at) → ⊥

module _ (b : Block) (limit : ℕ) where
  gap-iff : {bs : List Block} → Laminar bs → (free : ℕ) → T (gap_pass b.range free limit bs) ↔ Gap b free limit bs
  unfolding single
  gap-iff empty free = (
    λ t. record { at = free; above = omega arith; below = leb→le free limit t; unheld = λ c m. elim m [ ] },
    λ g. le→leb free limit (omega arith),
  )
  gap-iff (cons {b = c} {bs = bs} p before l) free = go (test (strictly_inside c.range b.range)) (test (ltb free c.range.first)) (test (leb limit c.range.last)) (λ free. gap-iff l free)
    where
      Unheld : ℕ → Block → Type 0
      Unheld x d = Strictly b.range d.range → Covers d.range (single x) → ⊥

      starts : (d : Block) → Before c d → c.range.first ≤ d.range.first
      starts d (around h g) = omega arith
      starts d (left h g) = omega arith

      go :
          T (strictly_inside c.range b.range) ⊎ T (not (strictly_inside c.range b.range))
          → T (ltb free c.range.first) ⊎ T (not (ltb free c.range.first))
          → T (leb limit c.range.last) ⊎ T (not (leb limit c.range.last))
          → ((free : ℕ) → T (gap_pass b.range free limit bs) ↔ Gap b free limit bs)
          → T (gap_pass b.range free limit (c ∷ bs)) ↔ Gap b free limit (c ∷ bs)
      go (inl i) (inl f) e rest =
          rw (is_true (strictly_inside c.range b.range) i, is_true (ltb free c.range.first) f) (
            λ t.
                record {
                  at = free;
                  above = omega arith;
                  below = leb→le free limit t;
                  unheld = each (Unheld free) (λ j k. let h = ltb→lt free c.range.first f in omega arith) (λ d m j k. let h = ltb→lt free c.range.first f in let o = starts d (before d m) in omega arith);
                },
            λ g. let h = g.above in let k = g.below in le→leb free limit (omega arith),
          )
      go (inl i) (inr f) (inl e) rest =
          rw (is_true (strictly_inside c.range b.range) i, is_false (ltb free c.range.first) (T_not (ltb free c.range.first) f), is_true (leb limit c.range.last) e) (
            λ t. absurd t,
            λ g.
                let h = g.above in
                let k = g.below in
                let m = nltb→le free c.range.first f in
                let n = leb→le limit c.range.last e in
                g.unheld c (Memᴰ.head refl) ((inside-iff c.range b.range).0 i) (omega arith),
          )
      go (inl i) (inr f) (inr e) rest =
          rw (is_true (strictly_inside c.range b.range) i, is_false (ltb free c.range.first) (T_not (ltb free c.range.first) f), is_false (leb limit c.range.last) (T_not (leb limit c.range.last) e))
          (λ t. widen ((rest (max free (suc c.range.last))).0 t), λ g. (rest (max free (suc c.range.last))).1 (narrow g (dec_le g.at c.range.last)))
        where
          widen : Gap b (max free (suc c.range.last)) limit bs → Gap b free limit (c ∷ bs)
          widen g = let h = g.above in record { at = g.at; above = omega arith; below = g.below; unheld = each (Unheld g.at) (λ j k. omega arith) g.unheld }

          narrow : (g : Gap b free limit (c ∷ bs)) → Dec (g.at ≤ c.range.last) → Gap b (max free (suc c.range.last)) limit bs
          narrow g (yes k) =
              absurd
              (let h = g.above in
              let m = nltb→le free c.range.first f in
              g.unheld c (Memᴰ.head refl) ((inside-iff c.range b.range).0 i) (omega arith))
          narrow g (no k) = let h = g.above in record { at = g.at; above = omega arith; below = g.below; unheld = λ d m. g.unheld d (Memᴰ.tail m) }
      go (inr i) f e rest =
          rw (is_false (strictly_inside c.range b.range) (T_not (strictly_inside c.range b.range) i))
          (λ t. widen ((rest free).0 t), λ g. (rest free).1 (record { at = g.at; above = g.above; below = g.below; unheld = λ d m. g.unheld d (Memᴰ.tail m) }))
        where
          widen : Gap b free limit bs → Gap b free limit (c ∷ bs)
          widen g =
              record {
                at = g.at;
                above = g.above;
                below = g.below;
                unheld = each (Unheld g.at) (λ j k. T_not (strictly_inside c.range b.range) i ((inside-iff c.range b.range).1 j)) g.unheld;
              }

gap_in_lem : {bs : List Block} → Laminar bs → (q : Range) (b : Block) → T (gap_in bs q b.range) ↔ T (holds_some bs q b)
unfolding gap_in single
gap_in_lem {bs} l q b = (
  λ t. (holds-some bs q b).1 (to-holds ((gap-iff b (min q.last b.range.last) l (max q.first b.range.first)).0 t)),
  λ t. let h = (holds-some bs q b).0 t in (gap-iff b (min q.last b.range.last) l (max q.first b.range.first)).1 (to-gap h.0 h.1),
)
  where
    to-holds : Gap b (max q.first b.range.first) (min q.last b.range.last) bs → (x : ℕ) × Holds bs q b x
    to-holds g =
        let h = g.above in
        let k = g.below in (
          g.at,
          record {
            inside = (covers-iff q (single g.at)).1 (omega arith);
            smallest = (best_iff inside-test (covering (single g.at)) bs b).1 (record { has = omega arith; unbeaten = λ c m i j. g.unheld c m j i });
          },
        )

    to-gap : (x : ℕ) → Holds bs q b x → Gap b (max q.first b.range.first) (min q.last b.range.last) bs
    to-gap x h =
        let best = (best_iff inside-test (covering (single x)) bs b).0 h.smallest in
        let i : Covers q (single x) = (covers-iff q (single x)).0 h.inside in
        let j : Covers b.range (single x) = best.has in
        record { at = x; above = omega arith; below = omega arith; unheld = λ c m i j. best.unbeaten c m j i }

-- Bottom by one pass for each block.
pub bottom-scan :
    (bs : List Block) → T (accepted bs) → (q : Range)
    → bottom bs q ≡ only_if (any (λ b. strictly_inside b.range q) bs) (select (λ b. gap_in bs q b.range) bs)
unfolding bottom
bottom-scan bs t q =
    ap (only_if (any (λ b. strictly_inside b.range q) bs))
    (sym (select-same (λ b. gap_in bs q b.range) (holds_some bs q) bs (λ b m. gap_in_lem (accepted-laminar bs t) q b)))

pub only_if_lem : (v : Bool) (ns : List ℕ) {n : ℕ} → (n ∈ only_if v ns) ↔ (T v × (n ∈ ns))
only_if_lem true ns = (λ i. (tt, i), λ h. h.1)
only_if_lem false ns = (λ i. elim i [ ], λ h. absurd h.0)

-- Bottom as S10.3 words it.
pub bottom-is : (bs : List Block) → T (accepted bs) → BottomIs bs
unfolding bottom lookup smallest single
bottom-is bs t q b m = (
  λ i.
      let o = (only_if_lem (any (λ (c : Block). strictly_inside c.range q) bs) (select (holds_some bs q) bs)).0 i in
      let h = (holds-some bs q b).0 (listed (holds_some bs q) l m o.1) in
      (o.0, record { address = h.0; of_range = h.1.inside; found = found_at h.0 ((best_iff inside-test (covering (single h.0)) bs b).0 h.1.smallest) }),
  λ h.
      (only_if_lem (any (λ (c : Block). strictly_inside c.range q) bs) (select (holds_some bs q) bs)).1 (
        h.0,
        yes-select (holds_some bs q) bs m
            ((holds-some bs q b).1 (
              h.1.address,
              record {
                inside = h.1.of_range;
                smallest = (best_iff inside-test (covering (single h.1.address)) bs b).1 ((lookup-listed l (single h.1.address) m).0 (rw h.1.found (Memᴰ.head refl)));
              },
            )),
      ),
)
  where
    l : Laminar bs
    l = accepted-laminar bs t

    found_at : (x : ℕ) → Best Inside (Covering (single x)) bs b → lookup bs (single x) ≡ b.number ∷ []
    found_at x h = answer-is l inside-test (covering (single x)) m h (λ c n k. one-smallest l (covering (single x)) (single x) (omega arith) (λ r o. o) n m k h)
