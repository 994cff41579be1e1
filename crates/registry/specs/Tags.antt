-- The tags of records (S4.3), and how far the range of a block is from its start.
use Rattle.std.specs.Prelude.{Bool, cond, ℕ, eqb}
use Rattle.octets.specs.Lists.{within}

abbrev pub ipv4_network : ℕ
ipv4_network = 0x10

abbrev pub ipv6_network : ℕ
ipv6_network = 0x11

abbrev pub as_block : ℕ
as_block = 0x12

abbrev pub domain : ℕ
domain = 0x13

abbrev pub nameserver : ℕ
nameserver = 0x14

abbrev pub entity : ℕ
entity = 0x15

abbrev pub is_block : ℕ → Bool
is_block tag = within ipv4_network as_block tag

abbrev pub is_known : ℕ → Bool
is_known tag = within ipv4_network entity tag

-- the bytes of an address or number of a block
abbrev pub width_of : ℕ → ℕ
width_of tag = cond (eqb tag ipv6_network) 16 4

-- the tag and the length before a field's contents
abbrev pub head_length : ℕ
head_length = 3

-- the range of a block comes after two of them: the block's and its own
abbrev pub range_offset : ℕ
range_offset = 6
