-- The range of an IP network is one of 8 or 32 bytes, by its tag, and its first is not above its last.
use Rattle.std.specs.Prelude.{Some}
use Prim.Native.Nat.{ℕ, ◌<◌}
use mathlib.Core.Path.{◌≡◌, sym, ap, ◌∙◌}
use mathlib.Core.List.{List}
use native.Mathlib.Omega.{arith}
use lib.Dec.{leb, leb→le, T}
use lib.ListN.{length, length-drop}
use Rattle.registry.specs.Tags.{width_of}
use Rattle.octets.specs.Lists.{within}
use Rattle.octets.proofs.Tests.{T_and}
use Rattle.records.specs.Record.{Record, range_of}
use Rattle.records.proofs.Accepted.{first-last}
use Rattle.image.specs.Image.{image_of}
use Rattle.image.specs.Part.{records_of}
use Rattle.image.specs.Index.{tag_of, Standing}
use Rattle.registry.specs.declared.Part.TheVariants.{Range}
use Rattle.nesting.proofs.Families.{wide-family}
use Rattle.entries.proofs.Standing.{standing, range_length}
use Rattle.forest.proofs.Families.{BlockRecord, block_record_lem}
use Rattle.prefixes.specs.Call.{ip_range_of}
use Rattle.prefixes.proofs.Answers.{a_network}
use Rattle.calls.specs.Calls.{part_of}
use Rattle.image_theorems.specs.Networks.{NetworkRange}

-- of the record that the block is
module _ (image : List ℕ) (n family : ℕ) (k : Standing image n) (tagged : k.r.tag ≡ family) (ip : T (within 0x10 0x11 family)) where
  tag_is : tag_of image n ≡ family
  tag_is = k.tag ∙ tagged

  its_range : ip_range_of (part_of image n Range) ≡ Some (record { width = width_of family; range = range_of k.r })
  unfolding part_of
  its_range =
      let h = leb→le family 0x11 ((T_and (leb 0x10 family) (leb family 0x11)).0 ip).1 in
      rw (k.here, tagged) (a_network k.r.range (wide-family family) (rw tag_is at (range_length k (omega (arith, tag_is)))) (rw tagged at (first-last k.r k.good)))

pub network-range : NetworkRange
network-range image records e family ip b m = go (block_record_lem family 0 records m)
  where
    go : BlockRecord family 0 records b → ip_range_of (part_of image b.number Range) ≡ Some (record { width = width_of family; range = b.range })
    go s = rw (skipped, s.ranged, same) (its_range image s.skipped family k (ap (λ (r : Record). r.tag) (sym same) ∙ s.tagged) ip)
      where
        skipped : b.number ≡ s.skipped
        skipped = let h = s.numbered in omega arith

        inside : s.skipped < length (records_of (image_of image))
        inside = rw e (omega (arith, ap length s.stands, length-drop s.skipped records))

        k : Standing image s.skipped
        k = standing image s.skipped inside

        same : s.first ≡ k.r
        same = let f = sym s.stands ∙ (rw e at k.here) in cc
