-- Serves contracts and proofs. What a record is sorted by besides its tag.
use Rattle.std.specs.Prelude.{◌≡◌, cond, List, ℕ, ◌*◌, ◌≤◌, length}
use Rattle.registry.specs.Tags.{is_block, width_of, as_block, ipv4_network}
use Rattle.records.specs.Record.{Record, key_of}

-- the range, name or handle of a record
abbrev pub bare_key : Record → List ℕ
bare_key r = cond (is_block r.tag) r.range (key_of r)

-- a key with the tag of a record
pub record Key (tag : ℕ) (key : List ℕ) : Type 0 where
  pub known : ipv4_network ≤ tag
  pub sized : tag ≤ as_block → length key ≡ 2 * width_of tag
