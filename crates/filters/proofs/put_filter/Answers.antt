-- The network and its entries, then its filter by them.
use Prim.Native.Nat.{ℕ}
use mathlib.Core.List.{List}
use mathlib.Core.Path.{◌≡◌, sym}
use lib.ListN.{replicate, length-replicate}
use native.Mathlib.Omega.{arith}
use lib.Seq.{length-take-le}
use Rattle.std.specs.Prelude.{Ok}
use Rattle.octets.specs.Number.{Bytes}
use Rattle.output.proofs.Writing.{written-front}
use Rattle.formats.proofs.Names.{name-length}
use Rattle.filters.proofs.Networks.{Network, is_wide, entries-inside, exact, a_network, no-network, no_room_lem, long-handle, nothing_put, entries_fit, entries-put}
use Rattle.filters.proofs.put_filter.Goals as goal
use Rattle.filters.proofs.put_filter.Goals.{After-prefixes}

bytes : (c : After-prefixes) → Bytes c.args.range.now
bytes c i h = (c.type_inv.range i).fits

-- the buffer for the entries
abbrev buffer : List ℕ
buffer = replicate 4318 0

listed : (c : After-prefixes) {count : ℕ} → c.prefixes.result ≡ Ok count → Network c.args.range.now c.prefixes.new.out count
listed c e = a_network c.args.range.now buffer (bytes c) (length-replicate {A = ℕ} 4318 0) c.prefixes.ensures.numbers c.prefixes.ensures.out e

pub returns-then-out-lt-ROOM : goal.returns-then-out-lt-ROOM
returns-then-out-lt-ROOM c = no_room_lem _ _ _ _ (omega arith)

pub returns-then-handle-gt64 : goal.returns-then-handle-gt64
returns-then-handle-gt64 c = long-handle _ _ _ _ (omega arith) (omega arith)

pub returns-in_default : goal.returns-in_default
returns-in_default c = nothing_put _ _ _ _ (omega arith) (omega arith) (no-network c.args.range.now buffer (bytes (goal.at.returns-in_default c).After-prefixes) (length-replicate {A = ℕ} 4318 0) c.prefixes.ensures.numbers c.prefixes.ensures.out c.in_default.is)

pub slice_bounds-name-end : goal.slice_bounds-name-end
slice_bounds-name-end c =
    let a = c.args in
    let n = name-length a.format a.handle.now in
    omega (arith, c.put_name-n.ensures.size)

pub slice_bounds-put_entries-end : goal.slice_bounds-put_entries-end
slice_bounds-put_entries-end c =
    let a = c.args in
    let n = name-length a.format a.handle.now in
    sym (length-take-le _ _ (omega (arith, c.put_name-n.ensures.size)))

-- the entries are in the buffer
pub overflow_mul-entries : goal.overflow_mul-entries
overflow_mul-entries c =
    omega (arith, entries-inside (listed (goal.at.overflow_mul-entries c).After-prefixes c.in-Ok.is), c.prefixes.auto.out)

pub slice_bounds-entries-end : goal.slice_bounds-entries-end
slice_bounds-entries-end c = entries-inside (listed (goal.at.slice_bounds-entries-end c).After-prefixes c.in-Ok.is)

pub slice_bounds-listed-end : goal.slice_bounds-listed-end
slice_bounds-listed-end c = sym (length-take-le _ _ (entries-inside (listed (goal.at.slice_bounds-listed-end c).After-prefixes c.in-Ok.is)))

pub invariant_of-listed : goal.invariant_of-listed
invariant_of-listed c =
    let g = listed (goal.at.invariant_of-listed c).After-prefixes c.in-Ok.is in
    record { wide = is_wide g; counted = length-take-le _ _ (entries-inside g) }

-- the filter's text by its entries has room
pub put_entries-requires : goal.put_entries-requires
put_entries-requires c =
    entries_fit (exact (listed (goal.at.put_entries-requires c).After-prefixes c.in-Ok.is)) _ _ c.style_of.ensures (written-front c.put_name-n.ensures) (omega arith) (omega arith)

pub returns : goal.returns
returns c =
    entries-put (exact (listed (goal.at.returns c).After-prefixes c.in-Ok.is)) _ _ c.style_of.ensures (written-front c.put_name-n.ensures) (omega arith) (omega arith) c.put_entries.ensures
