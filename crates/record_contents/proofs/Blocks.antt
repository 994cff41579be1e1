-- Defect 5 by the status and the range of a block; a record that is no block has none.
use mathlib.Core.Path.{◌≡◌, refl, sym, ap}
use mathlib.Core.Bool.{Bool, true, false, ◌&&◌}
use mathlib.Core.List.{List}
use Prim.Native.Nat.{ℕ, ◌+◌, ◌-◌, ◌≤◌, ◌<◌}
use borrow.Author.Tests.{le-leb, lt-leb}
use lib.Dec.{leb}
use lib.ListN.{length, get_or}
use lib.Seq.{slice_empty, take-nil, drop-nil}
use Rattle.registry.specs.Tags.{width_of}
use Rattle.octets.proofs.Connectives.{and-false}
use Rattle.octets.specs.Number.{value, value_from}
use Rattle.address.specs.Ranges.{well_formed}
use Rattle.octets.specs.Positions.{number_in}
use Rattle.records.specs.Record.{good_texts, good_block, good_contents}
use Rattle.records.specs.Layout.{record_on, LaidOut}
use Rattle.records.specs.declared.Layout.{Layout}
use Rattle.records.proofs.Shapes.{no_block}
use Rattle.records.proofs.Contents.{range_on, status_on}

module _ (s : List ℕ) (l : Layout) (p : LaidOut (length s) l) where
  -- a record that is no block has no status and no range
  pub named-good : 18 < l.tag → good_block (record_on s l) ≡ true
  unfolding value value_from well_formed
  named-good b =
      rw (no_block l.tag b, slice_empty l.start s, take-nil {A = ℕ} (width_of l.tag), drop-nil {A = ℕ} (width_of l.tag))

  module _ (b : l.tag ≤ 18) where
    pub bad-status : 1 < get_or s (l.end - 1) 0 → false ≡ good_block (record_on s l)
    bad-status h = rw (status_on s l p b, lt-leb _ 1 h)

    pub good-range : get_or s (l.end - 1) 0 ≤ 1 → (w : ℕ) → w ≡ width_of l.tag
        → leb (number_in s (l.start + 3) w) (number_in s (l.start + 3 + w) w) ≡ good_block (record_on s l)
    unfolding well_formed
    good-range h w e = rw (status_on s l p b, le-leb _ 1 h, e) (ap well_formed (sym (range_on s l p b)))

  -- defect 5 by the block, then by the texts
  pub bad-block : good_block (record_on s l) ≡ false → false ≡ good_contents (record_on s l)
  unfolding good_contents
  bad-block e = rw (e, and-false (good_texts (record_on s l)))

  pub by-texts : good_block (record_on s l) ≡ true → good_texts (record_on s l) ≡ good_contents (record_on s l)
  unfolding good_contents
  by-texts e = by-test (good_texts (record_on s l))
    where
      by-test : (v : Bool) → v ≡ (v && good_block (record_on s l))
      by-test true = sym e
      by-test false = refl
