-- The walk over the records: what is known before each, and one step.
use mathlib.Core.Path.{◌≡◌, refl, sym, ◌∙◌, ap}
use mathlib.Core.Bool.{Bool, true, false, cond, false≢true}
use mathlib.Core.List.{List, [], ◌∷◌, reverse}
use Prim.Native.Nat.{ℕ, zero, suc, ◌+◌, ◌-◌, ◌*◌, ◌≤◌, ◌<◌}
use borrow.Author.Tests.{ne_eqb, leb-true, eqb-true}
use lib.Dec.{leb, eqb}
use native.Mathlib.Omega.{arith}
use native.Mathlib.Nat.{le_refl}
use lib.ListN.{length, take, drop, set, length-reverse, length-set}
use lib.Seq.{slice, length-slice, take-length, slice_empty, get_or-set_same, get_or-set_other}
use Rattle.registry.specs.Tags.{width_of}
use Rattle.address.specs.Ranges.{Range}
use Rattle.fields.specs.Field.{head_of}
use Rattle.fields.specs.Positions.{field_at, FieldInside, behind}
use Rattle.fields.specs.Heads.{field-inside}
use Rattle.records.specs.Record.{Record, first_of}
use Rattle.records.specs.Judge.{bad, good, in_order, crosses_any}
use Rattle.records.specs.Layout.{layout_of, record_on, LaidOut}
use Rattle.records.specs.declared.Layout.{Layout}
use Rattle.records.proofs.Accepted.{first-last, After, follows-after}
use Rattle.image.specs.Image.{Image, sound, defective, stopped, taken, after_judged, next_of, after_next, image_from, starts_right}
use Rattle.image.specs.Checking.{TakenAt, ReadAt, verdict_of}
use Rattle.nesting.specs.Nest.{Opened, open_last}
use Rattle.placing.specs.Step.{nest_in, step_in, record_before, Coming, step_on}
use Rattle.std.specs.Prelude.{Option, Some, None, Result, Ok, Err}
use Rattle.registry.specs.declared.Defect.{Defect}
use Rattle.registry.specs.Defects.{defect_number}
use Rattle.image.proofs.Readings.{read_head}
use Rattle.records.proofs.Judging.{judged-read}
use Rattle.records.proofs.Contents.{ranged, range_on}
use Rattle.placing.proofs.Opens.{Open, open_none, Goes, Nested, nests, pushed}

-- After `count` records, the last of which lies as `p` says, or has the tag 0 if there is none: what is left of the image decides on the whole,
-- and the stack holds the open blocks.
pub record Walked (s : List ℕ) (whole : Image) (p : Layout) (stack : List ℕ) (depth count : ℕ) : Type 0 where
  pub earlier : List Record
  pub counted : length earlier ≡ count
  pub few : count ≤ 4096
  pub inside : p.end ≤ length s
  pub short-enough : length s ≤ 262144
  pub prior : record_before s p ≡ take 1 earlier
  pub placed : 0 < p.tag → LaidOut (length s) p
  pub size : length stack ≡ 4096
  pub shallow : depth ≤ count
  pub opened : Open earlier p.tag (first_of (record_on s p)) (open_last s (width_of p.tag) stack) depth
  pub lying : p.tag ≤ 18 → Opened s (width_of p.tag) stack depth
  pub rest : image_from (4096 - count) earlier (slice p.end (length s) s) ≡ whole

-- the next record, which lies as `q` says, can be read
pub record Reached (s : List ℕ) (whole : Image) (p : Layout) (stack : List ℕ) (depth count : ℕ) (q : Layout) : Type 0 where
  pub walked : Walked s whole p stack depth count
  pub more : p.end < length s
  pub few : count ≡ 4096 → ⊥
  pub here : TakenAt s p.end q

module _ (earlier : List Record) where
  pub from_end : (n : ℕ) → image_from n earlier [] ≡ sound (reverse earlier)
  unfolding image_from
  from_end zero = refl
  from_end (suc n) = refl

  pub from-full : (l : List ℕ) → 0 < length l → image_from 0 earlier l ≡ defective 3 (length earlier)
  unfolding image_from
  from-full [] h = absurd (omega arith)
  from-full (b ∷ l) h = refl

  pub from_next : (n : ℕ) (l : List ℕ) → 0 < length l
      → image_from (suc n) earlier l ≡ after_next earlier (next_of earlier (head_of l)) λ r rest. image_from n (r ∷ earlier) rest
  unfolding image_from
  from_next n [] h = absurd (omega arith)
  from_next n (b ∷ l) h = refl

-- the record before decides on the order
order-first : (earlier : List Record) (r : Record) → in_order (take 1 earlier) r ≡ in_order earlier r
unfolding in_order
order-first [] r = refl
order-first (e ∷ earlier) r = refl

pub walk_start : (s : List ℕ) (from : ℕ) → from ≤ length s → length s ≤ 262144 → (stack : List ℕ) → length stack ≡ 4096
    → Walked s (image_from 4096 [] (drop from s)) (layout_of 0 from from from) stack 0 0
walk_start s from l h stack z = record {
  earlier = [];
  counted = refl;
  few = omega arith;
  inside = l;
  short-enough = h;
  prior = refl;
  placed = λ y. absurd (omega (arith, y));
  size = z;
  shallow = omega arith;
  opened = open_none _ _;
  lying = λ y d k. absurd (omega (arith, k));
  rest = rw (take-length s);
}

module _ (s : List ℕ) (whole : Image) (p : Layout) (stack : List ℕ) (depth count : ℕ) (w : Walked s whole p stack depth count) where
  pub walk_end : length s ≤ p.end → Ok count ≡ verdict_of whole
  walk_end h =
      let e : p.end ≡ length s = omega (arith, w.inside) in
      let f : image_from (4096 - count) w.earlier [] ≡ whole = rw (e, slice_empty (length s) s) at w.rest in
      rw (← f, from_end w.earlier (4096 - count), length-reverse, w.counted)

  module _ (h : p.end < length s) where
    some_left : 0 < length (slice p.end (length s) s)
    some_left = rw (length-slice p.end (length s) s (le_refl _)) (omega arith)

    pub walk-full : count ≡ 4096 → Err (3, 4096) ≡ verdict_of whole
    walk-full e =
        let z : 4096 - count ≡ 0 = omega arith in
        rw (← w.rest, z, from-full w.earlier (slice p.end (length s) s) some_left, w.counted, e)

    module _ (k : count ≡ 4096 → ⊥) where
      one-step : after_next w.earlier (next_of w.earlier (head_of (slice p.end (length s) s))) (λ x rest. image_from (4096 - (count + 1)) (x ∷ w.earlier) rest) ≡ whole
      one-step =
          let z : 4096 - count ≡ suc (4096 - (count + 1)) = omega (arith, w.few, k) in
          rw (← from_next w.earlier (4096 - (count + 1)) (slice p.end (length s) s) some_left, ← z) w.rest

      refused-here : (d : ℕ) → next_of w.earlier (head_of (slice p.end (length s) s)) ≡ stopped d → Err (d, count) ≡ verdict_of whole
      refused-here d e = let f : defective d (length w.earlier) ≡ whole = rw e at one-step in rw (← f, w.counted)

      module _ (r : Result Layout Defect) (m : ReadAt s p.end r) where
        pub walk_refused : (d : Defect) → r ≡ Err d → Err (defect_number d, count) ≡ verdict_of whole
        walk_refused d e =
            let f : ReadAt s p.end (Err d) = rw e at m in
            refused-here (defect_number d) (f w.earlier)

        pub walk-taken : (q : Layout) → r ≡ Ok q → Reached s whole p stack depth count q
        walk-taken q e = record { walked = w; more = h; few = k; here = (rw e at m) }

module _ {s : List ℕ} {whole : Image} {p : Layout} {stack : List ℕ} {depth count : ℕ} {q : Layout} (c : Reached s whole p stack depth count q) where
  abbrev earlier : List Record
  earlier = c.walked.earlier

  pub field-here : FieldInside p.end (length s) q.start q.end
  field-here = field-inside s p.end (length s) _ c.here.stands

  pub behind-here : q.end ≡ behind (field_at s p.end (length s)) p.end
  behind-here = rw c.here.stands

  pub coming : Coming s p s q s stack depth
  coming = record {
    laid = c.here.readable.placed;
    earlier = c.walked.placed;
    open_blocks = λ b z. (omega (arith, c.walked.shallow, c.walked.few, c.walked.size), (rw z at (c.walked.lying (omega arith))));
  }

  after : in_order (record_before s p) (record_on s q) ≡ true → After p.tag (first_of (record_on s p)) (record_on s q)
  unfolding in_order
  after f = by_before (eqb p.tag 0) refl f
    where
      by_before : (t : Bool) → eqb p.tag 0 ≡ t → in_order (cond t [] (record_on s p ∷ [])) (record_on s q) ≡ true
          → After p.tag (first_of (record_on s p)) (record_on s q)
      by_before true x y =
          let z : p.tag ≡ 0 = eqb-true _ _ x in
          record { tags = omega arith; firsts = λ u v. absurd (omega (arith, u, z, coming.laid.known)) }
      by_before false x y = follows-after (record_on s p) (record_on s q) y

  next-is : (u v : Bool) → in_order (record_before s p) (record_on s q) ≡ u → crosses_any earlier (record_on s q) ≡ v
      → next_of earlier (head_of (slice p.end (length s) s)) ≡ after_judged (cond u (cond v (bad 7) (good (record_on s q))) (bad 6)) (slice q.end (length s) s)
  next-is u v y z =
      let m = c.here.readable in
      let o : in_order earlier (record_on s q) ≡ u = sym (order-first earlier (record_on s q)) ∙ sym (ap (λ (l : List Record). in_order l (record_on s q)) c.walked.prior) ∙ y in
      rw (
        read_head s p.end c.walked.inside _ refl _ c.here.stands,
        judged-read q.tag (slice q.start q.end s) (record_on s q) m.known m.parsed m.good earlier,
        o,
        z,
      )

  -- what the step says of a record
  abbrev Outcome : Result ℕ Defect → Type 0
  Outcome (Err d) = next_of earlier (head_of (slice p.end (length s) s)) ≡ stopped (defect_number d)
  Outcome (Ok u) =
      (next_of earlier (head_of (slice p.end (length s) s)) ≡ taken (record_on s q) (slice q.end (length s) s))
      × Goes earlier p.tag (open_last s (width_of p.tag) stack) depth (record_on s q) u

  outcome : Outcome (step_on s p s q s stack depth)
  outcome = by_order (in_order (record_before s p) (record_on s q)) refl
    where
      by-nest : (n : Option ℕ) → in_order (record_before s p) (record_on s q) ≡ true → Nested earlier p.tag (open_last s (width_of p.tag) stack) depth (record_on s q) n
          → Outcome (step_in true n)
      by-nest (Some u) y g = (next-is true false y g.clear, g)
      by-nest None y g = next-is true true y g

      by_order : (u : Bool) → in_order (record_before s p) (record_on s q) ≡ u → Outcome (step_in u (nest_in (open_last s (width_of p.tag) stack) p.tag (record_on s q) depth))
      by_order true y = by-nest (nest_in (open_last s (width_of p.tag) stack) p.tag (record_on s q) depth) y (nests c.walked.opened (record_on s q) coming.laid.known (after y) (first-last (record_on s q) c.here.readable.good))
      by_order false y = next-is false (crosses_any earlier (record_on s q)) y refl

  module _ (n : Result ℕ Defect) (g : n ≡ step_on s p s q s stack depth) where
    pub walk-bad : (d : Defect) → n ≡ Err d → Err (defect_number d, count) ≡ verdict_of whole
    walk-bad d f =
        let o : Outcome (Err d) = rw (← g, f) at outcome in
        refused-here s whole p stack depth count c.walked c.more c.few (defect_number d) o

    module _ (u : ℕ) (f : n ≡ Ok u) where
      fits : Outcome (Ok u)
      fits = rw (← g, f) at outcome

      pub room : u < 4096
      room = omega (arith, fits.1.few, c.walked.shallow, c.walked.few, c.few)

      pub walk-good : Walked s whole q (set stack u (q.start + 3)) (u + 1) (count + 1)
      walk-good = record {
        earlier = record_on s q ∷ earlier;
        counted = rw c.walked.counted (omega arith);
        few = omega (arith, c.walked.few, c.few);
        inside = field-here.within;
        short-enough = c.walked.short-enough;
        prior = rw (ne_eqb q.tag 0 (λ z. omega (arith, coming.laid.known, z)));
        placed = λ z. coming.laid;
        size = length-set stack u (q.start + 3) ∙ c.walked.size;
        shallow = omega (arith, fits.1.few, c.walked.shallow);
        opened = fits.1.onward _
            (λ d h. rw (get_or-set_other stack u d (q.start + 3) 0 (λ z. omega (arith, z, h)), fits.1.family (omega (arith, h))))
            (λ h. rw (get_or-set_same stack u (q.start + 3) 0 in_stack) (sym (ap (λ (x : Range). x.last) (range_on s q coming.laid h))));
        lying = λ h. pushed (λ (v : ℕ). v + 2 * width_of q.tag ≤ length s) stack u (q.start + 3) in_stack (ranged s q coming.laid h)
            (λ d k. let e = fits.1.family (omega (arith, k)) in (coming.open_blocks h e).1 d (omega (arith, k, fits.1.few)));
        rest = (rw fits.0 at (one-step s whole p stack depth count c.walked c.more c.few));
      }
        where
          in_stack : u < length stack
          in_stack = omega (arith, room, c.walked.size)

pub start-length : (s : List ℕ) → starts_right s ≡ true → 4 ≤ length s
unfolding starts_right
start-length s e = by-test (leb 4 (length s)) refl e
  where
    by-test : (v : Bool) → leb 4 (length s) ≡ v → starts_right s ≡ true → 4 ≤ length s
    by-test true p f = leb-true _ _ p
    by-test false p f = let g : false ≡ true = rw p at f in absurd (false≢true g)
