-- The answers in the words of S10.3: of the blocks that cover one range, each covers the later ones, so the smallest is inside all and the largest around all.
use Prim.Native.Nat.{ℕ}
use mathlib.Core.Bool.{Bool}
use mathlib.Core.Logic.{◌⊎◌, inl, inr, ⊎_elim, ◌↔◌}
use mathlib.Core.Path.{◌≡◌}
use mathlib.Core.List.Memᴰ
use mathlib.Core.List.{List, []}
use native.Mathlib.Omega.{arith}
use lib.Dec.{T}
use Rattle.octets.specs.Lists.{◌∈◌, any}
use Rattle.address.specs.Ranges.{Range, covers, strictly_covers, strictly_inside, well_formed}
use Rattle.forest.specs.Blocks.{Block}
use Rattle.forest.specs.Defects.{accepted}
use Rattle.forest.specs.Relations.{is_best, select, smallest, largest, lookup, up, top, down, holds_some, bottom}
use Rattle.forest.specs.Forest.{AllRegistered}
use Rattle.forest.specs.Found.{NoBlock, Smallest, Largest, NextInside, Found}
use Rattle.address.proofs.Geometry.{Proper, Covers, Strictly, proper, covers-iff, inside-iff}
use Rattle.forest.proofs.Laminar.{Laminar, accepted-laminar, around_or_inside}
use Rattle.forest.proofs.Select.{Best, unless_better, Decides, Compares, inside-test, around-test, first_such, last_such}
use Rattle.forest.proofs.Answers.{Inside, covering, around, within, listed-iff, members, last-smallest, first-largest, answer-none}
use Rattle.forest.proofs.Forest.{selected}
use Rattle.forest.proofs.Bottom.{bottom-is, only_if_lem}

module _ {bs : List Block} (l : Laminar bs) where
  -- no answer exactly if no block passes the test, since where one passes there is a best one
  none_best :
      {better : Range → Range → Bool} {Better : Range → Range → Type 0} {p : Range → Bool} {P : Range → Type 0} → Compares better Better → Decides p P
      → ((b : Block) × (b ∈ bs) × Best Better P bs b) ⊎ NoBlock p bs → (select (is_best better p bs) bs ≡ []) ↔ NoBlock p bs
  none_best t d best = (
    λ e. ⊎_elim (λ r. absurd (Memᴰ.not-nil (rw e at ((listed-iff l t d r.1).1 r.2)))) (λ n. n) best,
    λ n. answer-none l t d (λ c m h. n c m ((d.iff c.range).1 h)),
  )

  module _ {p : Range → Bool} {P : Range → Type 0} (d : Decides p P) where
    none-smallest : (smallest p bs ≡ []) ↔ NoBlock p bs
    unfolding smallest
    none-smallest = none_best inside-test d (⊎_elim (λ r. inl (r.block, r.registered, last-smallest l d r)) (λ n. inr n) (last_such (λ b. p b.range) l))

    none-largest : (largest p bs ≡ []) ↔ NoBlock p bs
    unfolding largest
    none-largest = none_best around-test d (⊎_elim (λ r. inl (r.block, r.registered, first-largest l d r)) (λ n. inr n) (first_such (λ b. p b.range) l))

    -- where the blocks that pass all cover one range
    module _ (q : Range) (pq : Proper q) (cover : (r : Range) → P r → Covers r q) where
      best_covered : {b : Block} → b ∈ bs → Best Inside P bs b → (c : Block) → c ∈ bs → T (p c.range) → T (covers c.range b.range)
      best_covered {b} m h c n t =
          let pc : P c.range = (d.iff c.range).0 t in
          (covers-iff c.range b.range).1 (unless_better h n pc (around_or_inside l q pq n m (cover c.range pc) (cover b.range h.has)))

      best_covering : {b : Block} → b ∈ bs → Best Strictly P bs b → (c : Block) → c ∈ bs → T (p c.range) → T (covers b.range c.range)
      best_covering {b} m h c n t =
          let pc : P c.range = (d.iff c.range).0 t in
          (covers-iff b.range c.range).1 (unless_better h n pc (around_or_inside l q pq m n (cover b.range h.has) (cover c.range pc)))

      smallest-is : (n : ℕ) → (n ∈ smallest p bs) ↔ Smallest p bs n
      unfolding smallest
      smallest-is n = (
        λ i.
            let r = members l inside-test d i in
            record {
              is = record { block = r.0; member = r.1; numbered = r.2 };
              passes = (d.iff r.0.range).1 r.3.has;
              covered = best_covered r.1 r.3;
            },
        λ s.
            let b : Block = s.is.block in
            rw s.is.numbered
            ((listed-iff l inside-test d s.is.member).1
            (record {
              has = (d.iff b.range).0 s.passes;
              unbeaten = λ c m h k. let j = (covers-iff c.range b.range).0 (s.covered c m ((d.iff c.range).1 h)) in omega arith;
            })),
      )

      largest-is : (n : ℕ) → (n ∈ largest p bs) ↔ Largest p bs n
      unfolding largest
      largest-is n = (
        λ i.
            let r = members l around-test d i in
            record {
              is = record { block = r.0; member = r.1; numbered = r.2 };
              passes = (d.iff r.0.range).1 r.3.has;
              covering = best_covering r.1 r.3;
            },
        λ s.
            let b : Block = s.is.block in
            rw s.is.numbered
            ((listed-iff l around-test d s.is.member).1
            (record {
              has = (d.iff b.range).0 s.passes;
              unbeaten = λ c m h k. let j = (covers-iff b.range c.range).0 (s.covering c m ((d.iff c.range).1 h)) in omega arith;
            })),
      )

  module _ (q : Range) where
    down_is : (n : ℕ) → (n ∈ down bs q) ↔ NextInside q bs n
    unfolding down largest
    down_is n = (
      λ i.
          let r = members l around-test (within q) i in
          record {
            is = record { block = r.0; member = r.1; numbered = r.2 };
            inside = (inside-iff r.0.range q).1 r.3.has;
            none_between = λ c m h k. r.3.unbeaten c m ((inside-iff c.range q).0 h) ((inside-iff r.0.range c.range).0 k);
          },
      λ s.
          let b : Block = s.is.block in
          rw s.is.numbered
          ((listed-iff l around-test (within q) s.is.member).1
          (record {
            has = (inside-iff b.range q).0 s.inside;
            unbeaten = λ c m h k. s.none_between c m ((inside-iff c.range q).1 h) ((inside-iff b.range c.range).1 k);
          })),
    )

    lookup-none : (lookup bs q ≡ []) ↔ NoBlock (λ r. covers r q) bs
    unfolding lookup
    lookup-none = none-smallest (covering q)

    up_none : (up bs q ≡ []) ↔ NoBlock (λ r. strictly_covers r q) bs
    unfolding up
    up_none = none-smallest (around q)

    top-none : (top bs q ≡ []) ↔ NoBlock (λ r. strictly_covers r q) bs
    unfolding top
    top-none = none-largest (around q)

    bottom-registered : AllRegistered bs (bottom bs q)
    unfolding bottom
    bottom-registered n i =
        selected (holds_some bs q) bs n ((only_if_lem (any (λ (b : Block). strictly_inside b.range q) bs) (select (holds_some bs q) bs)).0 i).1

    module _ (n : ℕ) (w : T (well_formed q)) where
      lookup-is : (n ∈ lookup bs q) ↔ Smallest (λ r. covers r q) bs n
      unfolding lookup
      lookup-is = smallest-is (covering q) q ((proper q).0 w) (λ r h. h) n

      up_is : (n ∈ up bs q) ↔ Smallest (λ r. strictly_covers r q) bs n
      unfolding up
      up_is = smallest-is (around q) q ((proper q).0 w) (λ r h. (h.0, h.1)) n

      top-is : (n ∈ top bs q) ↔ Largest (λ r. strictly_covers r q) bs n
      unfolding top
      top-is = largest-is (around q) q ((proper q).0 w) (λ r h. (h.0, h.1)) n

pub found : (bs : List Block) → T (accepted bs) → Found bs
found bs t =
    let l : Laminar bs = accepted-laminar bs t in
    record {
      lookup-is = lookup-is l;
      lookup-none = lookup-none l;
      up_is = up_is l;
      up_none = up_none l;
      top-is = top-is l;
      top-none = top-none l;
      down_is = down_is l;
      bottom-is = bottom-is bs t;
      bottom-registered = bottom-registered l;
    }
