-- A part is empty exactly where there is no record that has it: rule 5 leaves no empty handle or name, rule 4 no empty range of a block.
use Prim.Native.Nat.{ℕ, ◌*◌, ◌≤◌, ◌<◌}
use mathlib.Core.Bool.{Bool, true, false, cond, ◌&&◌, ◌||◌, true≢false}
use mathlib.Core.Logic.{◌↔◌}
use mathlib.Core.Path.{◌≡◌, refl, sym, ap, ◌∙◌}
use mathlib.Core.List.{List, []}
use native.Mathlib.Decide.{dec_lt}
use native.Mathlib.Omega.{arith}
use lib.Dec.{eqb, leb}
use lib.ListN.{length, take, drop, drop_of_length-le}
use lib.Seq.{slice_empty}
use Rattle.registry.specs.Tags.{is_block, width_of}
use Rattle.octets.specs.Lists.{within, every, any}
use Rattle.octets.specs.Number.{value}
use Rattle.address.specs.Ranges.{well_formed}
use Rattle.octets.specs.Split.{split}
use Rattle.octets.proofs.Connectives.{and_left, and_right, within-high}
use Rattle.texts.specs.Host.{is_label, is_host_name}
use Rattle.texts.specs.Texts.{good_text, good_host}
use Rattle.records.specs.Record.{range_of, good_name, good_texts, good_contents}
use Rattle.records.specs.Positions.{range_span}
use Rattle.image.specs.Image.{image_of}
use Rattle.image.specs.Part.{records_of, contents_of, excerpt_of, has, EmptyPart}
use Rattle.image.specs.Entries.{contents_span}
use Rattle.image.specs.Index.{tag_of, Standing}
use Rattle.registry.specs.declared.Part.{Part}
use Rattle.registry.specs.declared.Part.TheVariants.{Range, Handle, Name}
use Rattle.entries.proofs.Standing.{standing, range_length}

empty-text : (low : ℕ) → good_text low [] ≡ true → ⊥
unfolding good_text
empty-text low e = true≢false (sym e)

empty_name : (tag : ℕ) → good_name tag [] ≡ true → ⊥
unfolding good_name good_host is_host_name split every is_label good_text
empty_name tag e = go (within 0x13 0x14 tag) e
  where
    go : (v : Bool) → cond v (good_host []) (good_text 0x20 []) ≡ true → ⊥
    go true x = true≢false (sym x)
    go false x = true≢false (sym x)

-- of a record that stands in a sound image
module _ (s : List ℕ) (n : ℕ) (k : Standing s n) where
  texts : good_texts k.r ≡ true
  unfolding good_contents
  texts = and_left (good_texts k.r) (leb (value k.r.status) 1 && well_formed (range_of k.r)) k.good

  some_bytes : (tag : ℕ) → 1 ≤ 2 * width_of tag
  some_bytes tag = go (eqb tag 0x11)
    where
      go : (v : Bool) → 1 ≤ 2 * cond v 16 4
      go true = omega arith
      go false = omega arith

  ranged : is_block k.r.tag ≡ true → k.r.range ≡ [] → ⊥
  ranged b e =
      let h = within-high 0x10 0x12 k.r.tag b in
      let block : tag_of s n ≤ 18 = omega (arith, k.tag) in
      omega (arith, range_length k block, ap length e, some_bytes (tag_of s n))

  no-range : is_block k.r.tag ≡ false → k.r.range ≡ []
  unfolding contents_span range_span
  no-range b = sym (k.contents Range) ∙ rw (k.field-here, k.tag, b) (slice_empty 0 s)

  part : (which : Part) → (contents_of which k.r ≡ []) ↔ (has which k.r || false ≡ false)
  part Range = go (is_block k.r.tag) refl
    where
      go : (v : Bool) → is_block k.r.tag ≡ v → (k.r.range ≡ []) ↔ (v || false ≡ false)
      go true b = (λ e. absurd (ranged b e), λ e. absurd (true≢false e))
      go false b = (λ e. refl, λ e. no-range b)
  part Handle = (λ e. absurd (empty-text 0x21 (rw e at (and_left (good_text 0x21 k.r.handle) (good_name k.r.tag k.r.name) texts))), λ e. absurd (true≢false e))
  part Name = (λ e. absurd (empty_name k.r.tag (rw e at (and_right (good_text 0x21 k.r.handle) (good_name k.r.tag k.r.name) texts))), λ e. absurd (true≢false e))

pub empty-part : EmptyPart
empty-part image n which = go (dec_lt n (length (records_of (image_of image))))
  where
    go : Dec (n < length (records_of (image_of image)))
        → (excerpt_of (image_of image) n which ≡ []) ↔ (any (has which) (take 1 (drop n (records_of (image_of image)))) ≡ false)
    go (yes h) = let k = standing image n h in rw k.here (part image n k which)
    go (no h) = rw (drop_of_length-le (records_of (image_of image)) {i = n} (omega arith)) (λ e. refl, λ e. refl)
