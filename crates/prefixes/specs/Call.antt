-- The call that lists the prefixes of a range (S2.6): a range as bytes goes in, entries in a lent buffer come out.
use Rattle.std.specs.Prelude.{ℕ, ◌*◌, cond, List, eqb, length, Option, None, Some, Result, Err}
use Rattle.address.specs.Ranges.{Range, range_from, well_formed}
use Rattle.cidr.specs.Prefixes.{Prefix, prefixes_of}
use Rattle.prefix_bytes.specs.Entry.{entries_of}
use Rattle.output.specs.declared.WriteError.{WriteError}
use Rattle.output.specs.declared.WriteError.TheVariants.{Malformed}
use Rattle.output.specs.Writing.{if_room, counted_of}

-- A range of addresses of so many bytes: 4 for IPv4, 16 for IPv6.
pub record IpRange : Type 0 where
  pub width : ℕ
  pub range : Range

-- none where first is above last
unfoldable pub ip_range : ℕ → List ℕ → Option IpRange
ip_range width s = cond (well_formed (range_from width s)) (Some (record { width = width; range = range_from width s })) None

-- first and last, of 4 or 16 bytes each
unfoldable pub ip_range_of : List ℕ → Option IpRange
ip_range_of s = cond (eqb (length s) 8) (ip_range 4 s) (cond (eqb (length s) 32) (ip_range 16 s) None)

unfoldable pub prefixes_in : IpRange → List Prefix
prefixes_in a = prefixes_of (8 * a.width) a.range

unfoldable pub entries_in : IpRange → List ℕ
entries_in a = entries_of a.width (prefixes_in a)

-- How many prefixes are written; no such range is malformed, and where there is too little room the number of prefixes is needed.
unfoldable pub prefixed_of : Option IpRange → ℕ → Result ℕ WriteError
prefixed_of None room = Err Malformed
prefixed_of (Some a) room = counted_of (entries_in a) (length (prefixes_in a)) room

-- The buffer afterwards: the entries, then what it held there before; after a refusal all that it held.
unfoldable pub buffer_after : Option IpRange → List ℕ → List ℕ
buffer_after None out = out
buffer_after (Some a) out = if_room (entries_in a) out
