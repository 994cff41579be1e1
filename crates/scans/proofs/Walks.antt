-- A walk over the blocks of a run: those that are still to come, and the one that stands at a record number.
use Prim.Native.Nat.{ℕ, zero, suc, ◌+◌, ◌-◌, ◌*◌, ◌≤◌, ◌<◌}
use mathlib.Core.Path.{◌≡◌, refl, sym, ap, ◌∙◌}
use mathlib.Core.List.{List, [], ◌∷◌}
use native.Mathlib.Nat.{add-zero}
use native.Mathlib.Omega.{arith}
use native.Mathlib.Numerals.{add-one}
use borrow.Author.Tests.{eq-eqb, ne_eqb}
use lib.Dec.{T, eqb}
use lib.ListN.{length, drop, get_or, drop_of_length-le}
use lib.Seq.{slice}
use Rattle.registry.specs.Tags.{width_of}
use Rattle.octets.specs.Lists.{keep}
use Rattle.address.specs.Ranges.{well_formed}
use Rattle.address.specs.Positions.{range_in}
use Rattle.address.specs.Address.{numbers}
use Rattle.address.specs.declared.AddressRange.{AddressRange}
use Rattle.fields.specs.Slices.{take-slice, drop-slice}
use Rattle.records.specs.Record.{range_of}
use Rattle.image.specs.Image.{image_of}
use Rattle.image.specs.Part.{records_of}
use Rattle.image.specs.Entries.{start_of}
use Rattle.image.specs.Index.{tag_of}
use Rattle.image.specs.declared.Run.{Run}
use Rattle.image.proofs.Soundness.{counted, few-records, few_bytes}
use Rattle.entries.proofs.Standing.{standing}
use Rattle.nesting.proofs.Families.{low-family, wide-family}
use Rattle.forest.specs.Blocks.{Block, blocks_from}
use Rattle.forest.specs.Defects.{accepted}
use Rattle.address.proofs.Geometry.{proper}
use Rattle.forest.proofs.Laminar.{Laminar, cons, accepted-laminar}
use Rattle.scans.specs.Standing.{blocks_in, Searchable}
use Rattle.containment.specs.Tests.{Comparable}
use Rattle.scans.proofs.Accepting.{blocks-accepted}

-- the blocks of a family from record i on
abbrev pub blocks_left : List ℕ → ℕ → ℕ → List Block
blocks_left s family i = blocks_from family i (drop i (records_of (image_of s)))

module _ (s : List ℕ) (family i : ℕ) (h : i < length (records_of (image_of s))) where
  left-next : blocks_left s family i
      ≡ keep (eqb (tag_of s i) family) (record { number = i; range = range_of (standing s i h).r }) (blocks_left s family (i + 1))
  left-next = let x = standing s i h in ap (blocks_from family i) x.here ∙ rw (x.tag, add-one i) refl

  left_other : (tag_of s i ≡ family → ⊥) → blocks_left s family i ≡ blocks_left s family (i + 1)
  left_other n = left-next ∙ rw (ne_eqb (tag_of s i) family n) refl

  module _ (t : tag_of s i ≡ family) (low : family ≤ 18) (w : ℕ) (wide : w ≡ width_of family) where
    range-fits : start_of s i + 6 + 2 * w ≤ length s
    range-fits = let k = (standing s i h).range_inside (omega arith) in rw (t, ← wide) at k

    range-here : range_of (standing s i h).r ≡ range_in s (start_of s i + 6) w
    range-here =
        let x = standing s i h in
        let at = start_of s i + 6 in
        let d : at + 2 * w ≡ at + w + w = omega arith in
        let f : slice at (at + w + w) s ≡ x.r.range = rw (t, ← wide, d) at (x.range (omega arith)) in
        rw (← x.tag, t, ← wide, ← f, take-slice w at (at + w + w) s (omega arith), drop-slice w at (at + w + w) s)

    left-block : blocks_left s family i ≡ record { number = i; range = range_in s (start_of s i + 6) w } ∷ blocks_left s family (i + 1)
    left-block = left-next ∙ rw (eq-eqb (tag_of s i) family t, range-here) refl

module _ (s : List ℕ) (family : ℕ) where
  -- no record before k is one of them
  left-all : (k : ℕ) → k ≤ length (records_of (image_of s)) → ((i : ℕ) → i < k → tag_of s i ≡ family → ⊥) → blocks_left s family k ≡ blocks_in s family
  unfolding blocks_in
  left-all zero h n = refl
  left-all (suc k) h n =
      rw (← add-one k) (sym (left_other s family k (omega arith) (n k (omega arith)))) ∙ left-all k (omega arith) (λ i p. n i (omega arith))

  -- nor one from k on, of which there are d
  left-none : (d k : ℕ) → d + k ≡ length (records_of (image_of s))
      → ((i : ℕ) → k ≤ i → i < length (records_of (image_of s)) → tag_of s i ≡ family → ⊥) → blocks_left s family k ≡ []
  left-none zero k e n = let h : length (records_of (image_of s)) ≤ k = omega arith in rw (drop_of_length-le (records_of (image_of s)) h)
  left-none (suc d) k e n = left_other s family k (omega arith) (n k (omega arith) (omega arith)) ∙ left-none d (k + 1) (omega arith) (λ i p. n i (omega arith))

module _ {s starts : List ℕ} {blocks : Run} {range : AddressRange} (q : Searchable s starts blocks range) where
  pub asked-accepted : T (accepted (blocks_in s blocks.low))
  asked-accepted = blocks-accepted s q.selected.count q.selected.indexed.sound blocks.low q.block

  pub asked-proper : T (well_formed (numbers range))
  asked-proper = (proper (numbers range)).1 q.proper

  pub asked-few : blocks.until ≤ 4096
  asked-few = omega (arith, q.selected.run_of.ends, few-records s q.selected.count q.selected.indexed.sound)

  all-counted : length (records_of (image_of s)) ≡ q.selected.count
  all-counted = counted (image_of s) q.selected.count q.selected.indexed.sound

  pub run-start : blocks_left s blocks.low blocks.from ≡ blocks_in s blocks.low
  run-start =
      let r = q.selected.run_of in
      left-all s blocks.low blocks.from (omega (arith, r.forward, r.ends, all-counted)) (λ i h t. omega (arith, r.before i h))

  pub run_end : (i : ℕ) → blocks.until ≤ i → i ≤ blocks.until → blocks_left s blocks.low i ≡ []
  run_end i h k =
      let r = q.selected.run_of in
      left-none s blocks.low (q.selected.count - i) i (omega (arith, r.ends, all-counted))
      (λ j p l t. omega (arith, r.behind j (omega arith) (omega (arith, all-counted)), q.one))

  -- at a record of the run
  module _ {i : ℕ} (low : blocks.from ≤ i) (high : i < blocks.until) where
    known : i < length (records_of (image_of s))
    known = omega (arith, q.selected.run_of.ends, all-counted)

    tagged : tag_of s i ≡ blocks.low
    tagged = omega (arith, q.selected.run_of.inside i low high, q.one)

    start : get_or starts i 0 ≡ start_of s i
    start = q.selected.indexed.start i (omega (arith, q.selected.run_of.ends))

    pub within : (i < 4096) × (get_or starts i 0 ≤ 262144)
    within = (
      omega (arith, asked-few),
      omega (arith, start, (standing s i known).within, few_bytes s q.selected.count q.selected.indexed.sound),
    )

-- at a record of the run, whose range starts at a position and has the family's width
pub record Here (s starts : List ℕ) (blocks : Run) (range : AddressRange) (i at w : ℕ) : Type 0 where
  pub asked : Searchable s starts blocks range
  pub low : blocks.from ≤ i
  pub high : i < blocks.until
  pub start : at ≡ get_or starts i 0 + 6
  pub wide : w ≡ width_of blocks.low

module _ {s starts : List ℕ} {blocks : Run} {range : AddressRange} {i at w : ℕ} (h : Here s starts blocks range i at w) where
  begins : at ≡ start_of s i + 6
  begins = h.start ∙ ap (λ (p : ℕ). p + 6) (start h.asked h.low h.high)

  pub comparable : Comparable s at w
  comparable =
      let q = h.asked in
      record {
        wide = rw h.wide (wide-family blocks.low);
        fits = rw begins (range-fits s blocks.low i (known q h.low h.high) (tagged q h.low h.high) (low-family blocks.low q.block) w h.wide);
      }

  pub next-left : blocks_left s blocks.low i ≡ record { number = i; range = range_in s at w } ∷ blocks_left s blocks.low (i + 1)
  next-left =
      let q = h.asked in
      rw begins (left-block s blocks.low i (known q h.low h.high) (tagged q h.low h.high) (low-family blocks.low q.block) w h.wide)

-- the blocks from a record of the run on, and behind the last
pub run-laminar : {s starts : List ℕ} {blocks : Run} {range : AddressRange} (q : Searchable s starts blocks range) {i : ℕ} → blocks.from ≤ i → i ≤ blocks.until
    → Laminar (blocks_left s blocks.low i)
run-laminar {s} {starts} {blocks} q {i} low high = let e : blocks.from + (i - blocks.from) ≡ i = omega arith in rw e at (go (i - blocks.from) (omega arith))
  where
    tail : {b : Block} {bs : List Block} → Laminar (b ∷ bs) → Laminar bs
    tail (cons p f l) = l

    go : (k : ℕ) → blocks.from + k ≤ blocks.until → Laminar (blocks_left s blocks.low (blocks.from + k))
    go zero h = rw (add-zero blocks.from, run-start q) (accepted-laminar (blocks_in s blocks.low) (asked-accepted q))
    go (suc k) h =
        let e : blocks.from + suc k ≡ blocks.from + k + 1 = omega arith in
        let x : Here s starts blocks _ (blocks.from + k) _ _ = record { asked = q; low = omega arith; high = omega arith; start = refl; wide = refl } in
        rw e (tail (rw (next-left x) at (go k (omega arith))))
