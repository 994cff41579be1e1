-- The blocks of each family of a sound image are accepted: rules 5, 6 and 7 on records, read as rules on the blocks of one tag.
use Prim.Native.Nat.{ℕ, zero, suc, ◌+◌, ◌≤◌, ◌<◌}
use mathlib.Core.Bool.{Bool, true, false, not, ◌&&◌, ◌||◌}
use mathlib.Core.Logic.{◌⊎◌, inl, inr}
use mathlib.Core.Path.{◌≡◌, refl, sym, subst, ap, ◌∙◌}
use mathlib.Core.List.Memᴰ
use mathlib.Core.List.{List, [], ◌∷◌}
use native.Mathlib.Omega.{arith}
use borrow.Author.Tests.{eq-eqb}
use lib.Arith.{lt_of_le-ne}
use lib.Dec.{T, T_not, not_T, ltb, eqb, ltb→lt, lt→ltb, eqb→eq, eqb_refl}
use lib.ListN.{length, drop}
use Rattle.registry.specs.Tags.{is_block}
use Rattle.octets.specs.Lists.{◌∈◌, keep, any}
use Rattle.address.specs.Ranges.{well_formed, sorts_after, crosses}
use Rattle.records.specs.Record.{Record, range_of, good_contents, sorted_after, follows, crosses_block}
use Rattle.records.specs.Judge.{in_order, crosses_any}
use Rattle.records.proofs.Accepted.{first-last}
use Rattle.image.specs.Image.{sound, image_of}
use Rattle.image.proofs.Sound.{Accepted, Later, done, next, records-later}
use Rattle.forest.specs.Blocks.{Block, blocks_from, blocks_of}
use Rattle.forest.specs.Forest.{Registered}
use Rattle.forest.specs.Defects as Defects
use Rattle.forest.specs.Defects.{admissible, accepted_after, accepted}
use Rattle.address.proofs.Geometry.{proper}
use Rattle.octets.proofs.Tests.{T_and, T_or, or_left, or_right, test, is_true, is_false, each}

-- The earlier blocks of one family

-- the tags of the earlier records, the latest first, do not rise
data Falling : List Record → Type 0 where
  none : Falling []
  link : {p : Record} {earlier : List Record} → ((a : Record) → a ∈ earlier → a.tag ≤ p.tag) → Falling (p ∷ earlier)

record After (p r : Record) : Type 0 where
  tags : p.tag ≤ r.tag
  sorted : T (eqb p.tag r.tag) → T (sorted_after p r)

after-yes : (p r : Record) → T (follows p r) → After p r
unfolding follows
after-yes p r t = go (T_or (ltb p.tag r.tag) (eqb p.tag r.tag && sorted_after p r) t)
  where
    go : T (ltb p.tag r.tag) ⊎ T (eqb p.tag r.tag && sorted_after p r) → After p r
    go (inl h) =
        let k = ltb→lt p.tag r.tag h in
        record { tags = omega arith; sorted = λ q. absurd (let e = eqb→eq p.tag r.tag q in omega arith) }
    go (inr h) =
        let s = (T_and (eqb p.tag r.tag) (sorted_after p r)).0 h in
        let e = eqb→eq p.tag r.tag s.0 in
        record { tags = omega arith; sorted = λ q. s.1 }

falling : {earlier : List Record} → Falling earlier → (r : Record) → T (in_order earlier r) → Falling (r ∷ earlier)
unfolding in_order
falling none r t = link (λ a m. absurd (Memᴰ.not-nil m))
falling (link {p = p} f) r t =
    let h = (after-yes p r t).tags in
    link (each (λ a. a.tag ≤ r.tag) h (λ a m. let k = f a m in omega arith))

module _ (family : ℕ) (known : T (is_block family)) where
  -- the block that a record is, after so many others
  abbrev block_at : ℕ → Record → Block
  block_at n r = record { number = n; range = range_of r }

  -- the blocks of the family among the earlier records, the latest first
  abbrev before : List Record → List Block
  before [] = []
  before (r ∷ earlier) = keep (eqb r.tag family) (block_at (length earlier) r) (before earlier)

  none_before : (earlier : List Record) (bound : ℕ) → bound < family → ((a : Record) → a ∈ earlier → a.tag ≤ bound) → before earlier ≡ []
  none_before [] bound h f = refl
  none_before (a ∷ earlier) bound h f =
      rw (is_false (eqb a.tag family) (λ q. let e = eqb→eq a.tag family q in let k = f a (Memᴰ.head refl) in omega arith))
      (none_before earlier bound h (λ c m. f c (Memᴰ.tail m)))

  sorts_after_lem : (p r : Record) → r.tag ≡ family → T (sorted_after p r) → T (sorts_after (range_of p) (range_of r))
  unfolding sorted_after
  sorts_after_lem p r e t = rw (is_true (is_block r.tag) (subst (λ (k : ℕ). T (is_block k)) (sym e) known)) at t

  in_order_lem : {earlier : List Record} → Falling earlier → (r : Record) → r.tag ≡ family → T (in_order earlier r) → T (Defects.in_sequence (before earlier) (block_at (length earlier) r))
  unfolding in_order Defects.in_sequence
  in_order_lem none r e t = tt
  in_order_lem (link {p = p} {earlier = earlier} f) r e t = go (after-yes p r t) (test (eqb p.tag family))
    where
      go :
          After p r → T (eqb p.tag family) ⊎ T (not (eqb p.tag family))
          → T (Defects.in_sequence (keep (eqb p.tag family) (block_at (length earlier) p) (before earlier)) (block_at (suc (length earlier)) r))
      go a (inl q) =
          rw (is_true (eqb p.tag family) q)
          ((T_and (ltb (length earlier) (suc (length earlier))) (sorts_after (range_of p) (range_of r))).1 (
            lt→ltb (length earlier) (suc (length earlier)) (omega arith),
            sorts_after_lem p r e (a.sorted (subst (λ (k : ℕ). T (eqb p.tag k)) (sym e) q)),
          ))
      go a (inr n) =
          let h = a.tags in
          let lower : p.tag < family = lt_of_le-ne (omega arith) (λ (q : p.tag ≡ family). T_not (eqb p.tag family) n (subst (λ (k : ℕ). T (eqb p.tag k)) q (eqb_refl p.tag))) in
          rw (is_false (eqb p.tag family) (T_not (eqb p.tag family) n), none_before earlier p.tag lower f) tt

  crossed :
      (earlier : List Record) (r : Record) → r.tag ≡ family
      → T (any (λ (a : Block). crosses a.range (range_of r)) (before earlier)) → T (crosses_any earlier r)
  unfolding crosses_any crosses_block
  crossed [] r e t = absurd t
  crossed (a ∷ earlier) r e t = go (test (eqb a.tag family)) (λ s. crossed earlier r e s)
    where
      go :
          T (eqb a.tag family) ⊎ T (not (eqb a.tag family))
          → (T (any (λ (a : Block). crosses a.range (range_of r)) (before earlier)) → T (crosses_any earlier r))
          → T (crosses_block a r || crosses_any earlier r)
      go (inl q) rest =
          by_or (T_or (crosses (range_of a) (range_of r)) (any (λ (a : Block). crosses a.range (range_of r)) (before earlier)) (rw (is_true (eqb a.tag family) q) at t))
        where
          by_or :
              T (crosses (range_of a) (range_of r)) ⊎ T (any (λ (a : Block). crosses a.range (range_of r)) (before earlier))
              → T (crosses_block a r || crosses_any earlier r)
          by_or (inl x) =
              or_left (crosses_block a r) (crosses_any earlier r)
              ((T_and (is_block r.tag && eqb a.tag r.tag) (crosses (range_of a) (range_of r))).1 (
                (T_and (is_block r.tag) (eqb a.tag r.tag)).1
                    (subst (λ (k : ℕ). T (is_block k)) (sym e) known, subst (λ (k : ℕ). T (eqb a.tag k)) (sym e) q),
                x,
              ))
          by_or (inr x) = or_right (crosses_block a r) (crosses_any earlier r) (rest x)
      go (inr n) rest = or_right (crosses_block a r) (crosses_any earlier r) (rest (rw (is_false (eqb a.tag family) (T_not (eqb a.tag family) n)) at t))

  well_formed_lem : (r : Record) → T (good_contents r) → T (well_formed (range_of r))
  well_formed_lem r t = (proper (range_of r)).1 (first-last r (is_true (good_contents r) t))

  block-admissible : {earlier : List Record} → Falling earlier → (r : Record) → r.tag ≡ family → Accepted earlier r → T (admissible (before earlier) (block_at (length earlier) r))
  unfolding admissible
  block-admissible {earlier} f r e a =
      (T_and (well_formed (range_of r) && Defects.in_sequence (before earlier) (block_at (length earlier) r))
      (not (any (λ (a : Block). crosses a.range (range_of r)) (before earlier)))).1 (
        (T_and (well_formed (range_of r)) (Defects.in_sequence (before earlier) (block_at (length earlier) r))).1 (well_formed_lem r a.contents, in_order_lem f r e a.ordered),
        not_T (any (λ (a : Block). crosses a.range (range_of r)) (before earlier)) (λ x. T_not (crosses_any earlier r) a.apart (crossed earlier r e x)),
      )

  later-accepted : {earlier later : List Record} → Later earlier later → Falling earlier → T (accepted_after (before earlier) (blocks_from family (length earlier) later))
  unfolding accepted_after
  later-accepted done f = tt
  later-accepted (next {earlier = earlier} {later = later} {r = r} a s) f =
      go (test (eqb r.tag family)) (later-accepted s (falling f r a.ordered))
    where
      go :
          T (eqb r.tag family) ⊎ T (not (eqb r.tag family))
          → T (accepted_after (keep (eqb r.tag family) (block_at (length earlier) r) (before earlier)) (blocks_from family (suc (length earlier)) later))
          → T (accepted_after (before earlier) (keep (eqb r.tag family) (block_at (length earlier) r) (blocks_from family (suc (length earlier)) later)))
      go (inl q) rest =
          rw (is_true (eqb r.tag family) q)
          ((T_and (admissible (before earlier) (block_at (length earlier) r))
          (accepted_after (block_at (length earlier) r ∷ before earlier) (blocks_from family (suc (length earlier)) later))).1
          (block-admissible f r (eqb→eq r.tag family q) a, rw (is_true (eqb r.tag family) q) at rest))
      go (inr n) rest =
          let e = is_false (eqb r.tag family) (T_not (eqb r.tag family) n) in
          rw e (rw e at rest)

  pub family-accepted : (image : List ℕ) (records : List Record) → image_of image ≡ sound records → T (accepted (blocks_of family records))
  unfolding accepted
  family-accepted image records e = later-accepted (records-later image records e) none

-- the record that a block is
pub record BlockRecord (family n : ℕ) (later : List Record) (b : Block) : Type 0 where
  pub skipped : ℕ
  pub first : Record
  pub rest : List Record
  pub numbered : b.number ≡ n + skipped
  pub stands : drop skipped later ≡ first ∷ rest
  pub tagged : first.tag ≡ family
  pub ranged : b.range ≡ range_of first

pub block_record_lem : (family n : ℕ) (later : List Record) {b : Block} → b ∈ blocks_from family n later → BlockRecord family n later b
block_record_lem family n [] m = absurd (Memᴰ.not-nil m)
block_record_lem family n (r ∷ later) {b} m = go (test (eqb r.tag family)) (λ k. block_record_lem family (suc n) later k)
  where
    onward : BlockRecord family (suc n) later b → BlockRecord family n (r ∷ later) b
    onward s =
        let e = s.numbered in
        record { skipped = suc s.skipped; first = s.first; rest = s.rest; numbered = omega arith; stands = s.stands; tagged = s.tagged; ranged = s.ranged }

    go :
        T (eqb r.tag family) ⊎ T (not (eqb r.tag family)) → (b ∈ blocks_from family (suc n) later → BlockRecord family (suc n) later b)
        → BlockRecord family n (r ∷ later) b
    go (inl q) rest = here (rw (is_true (eqb r.tag family) q) at m)
      where
        here : b ∈ (record { number = n; range = range_of r } ∷ blocks_from family (suc n) later) → BlockRecord family n (r ∷ later) b
        here (Memᴰ.head p) =
            let e = ap (λ (y : Block). y.number) p in
            record { skipped = 0; first = r; rest = later; numbered = omega arith; stands = refl; tagged = eqb→eq r.tag family q; ranged = ap (λ (y : Block). y.range) p }
        here (Memᴰ.tail k) = onward (rest k)
    go (inr x) rest = onward (rest (rw (is_false (eqb r.tag family) (T_not (eqb r.tag family) x)) at m))

-- a record of the family is a block
pub record_block :
    (family n skipped : ℕ) (later : List Record) {r : Record} {rest : List Record} → drop skipped later ≡ r ∷ rest → r.tag ≡ family
    → Registered (blocks_from family n later) (n + skipped)
record_block family n zero [] e t = absurd (let z : ◌≡◌ {A = ℕ} 0 1 = cc in omega arith)
record_block family n (suc skipped) [] e t = absurd (let z : ◌≡◌ {A = ℕ} 0 1 = cc in omega arith)
record_block family n zero (p ∷ later) {r} e t =
    let f : p ≡ r = cc in
    let g : p.tag ≡ family = ap (λ (x : Record). x.tag) f ∙ t in
    record {
      block = record { number = n; range = range_of p };
      member = rw (eq-eqb p.tag family g) (Memᴰ.head refl);
      numbered = omega arith;
    }
record_block family n (suc skipped) (p ∷ later) e t =
    let s = record_block family (suc n) skipped later e t in
    record { block = s.block; member = past (eqb p.tag family) (record { number = n; range = range_of p }) s.member; numbered = omega (arith, s.numbered) }
  where
    past : (v : Bool) (x : Block) {b : Block} {bs : List Block} → b ∈ bs → b ∈ keep v x bs
    past true x m = Memᴰ.tail m
    past false x m = m
