-- From a record number to prefixes (S2.7, S2.6), for every accepted image. Proved in proofs/Networks.antt.
use Rattle.std.specs.Prelude.{ℕ, ◌≡◌, List, T, Some}
use Rattle.registry.specs.Tags.{width_of, ipv4_network, ipv6_network}
use Rattle.octets.specs.Lists.{◌∈◌, within}
use Rattle.records.specs.Record.{Record}
use Rattle.image.specs.Image.{image_of, sound}
use Rattle.registry.specs.declared.Part.TheVariants.{Range}
use Rattle.forest.specs.Blocks.{Block, blocks_of}
use Rattle.prefixes.specs.Call.{ip_range_of}
use Rattle.calls.specs.Calls.{part_of}

-- The range of an IP network, as it is handed back, is a range for the other call: that block's.
abbrev pub NetworkRange : Type 0
NetworkRange =
    (image : List ℕ) (records : List Record) → image_of image ≡ sound records
    → (family : ℕ) → T (within ipv4_network ipv6_network family) → (b : Block) → b ∈ blocks_of family records
    → ip_range_of (part_of image b.number Range) ≡ Some (record { width = width_of family; range = b.range })
