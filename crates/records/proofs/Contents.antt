-- The status and the range of a block by their positions.
use mathlib.Core.Path.{◌≡◌, ◌∙◌}
use mathlib.Core.List.{List}
use Prim.Native.Nat.{ℕ, suc, ◌+◌, ◌-◌, ◌*◌, ◌≤◌, ◌<◌}
use native.Mathlib.Omega.{arith}
use lib.ListN.{length, get_or}
use lib.Seq.{slice, slice-cons, slice_empty}
use Rattle.registry.specs.Tags.{width_of}
use Rattle.octets.specs.Number.{value, value_from}
use Rattle.address.specs.Ranges.{range_from}
use Rattle.address.specs.Positions.{range_in}
use Rattle.fields.specs.Slices.{take-slice, drop-slice}
use Rattle.records.specs.Record.{range_of}
use Rattle.records.specs.Positions.{bytes_of}
use Rattle.records.specs.Layout.{parts_of, record_on, LaidOut}
use Rattle.records.specs.declared.Span.{Span}
use Rattle.records.specs.declared.Layout.{Layout}
use Rattle.records.proofs.Shapes.{a_block}

one_byte_lem : (s : List ℕ) (x : Span) → x.end ≤ length s → x.end - x.start ≡ 1 → value (bytes_of s x) ≡ get_or s x.start 0
unfolding value value_from
one_byte_lem s x q e =
    let f : x.end ≡ suc x.start = omega arith in
    rw (slice-cons x.start x.end s 0 (omega arith) q, f, slice_empty (suc x.start) s) (omega arith)

pub range-slice : (s : List ℕ) (w at : ℕ) → range_from w (slice at (at + 2 * w) s) ≡ range_in s at w
range-slice s w at =
    let e : at + 2 * w ≡ at + w + w = omega arith in
    rw (take-slice w at (at + 2 * w) s (omega arith), drop-slice w at (at + 2 * w) s, e)

module _ (s : List ℕ) (l : Layout) (p : LaidOut (length s) l) where
  module _ (b : l.tag ≤ 18) where
    pub ranged : l.start + 3 + 2 * width_of l.tag ≤ length s
    ranged = rw (a_block l.tag p.known b) at p.range.within

    pub range_on : range_of (record_on s l) ≡ range_in s (l.start + 3) (width_of l.tag)
    range_on = rw (a_block l.tag p.known b) (range-slice s (width_of l.tag) (l.start + 3))

    pub ends : (0 < l.end) × (l.end ≤ length s)
    ends =
        let e : l.end - (l.end - 1) ≡ 1 = rw (a_block l.tag p.known b) at (p.sizes b).1 in
        let k : l.end ≤ length s = rw (a_block l.tag p.known b) at p.status.within in
        (omega arith, k)

    pub status_on : value (record_on s l).status ≡ get_or s (l.end - 1) 0
    status_on = one_byte_lem s (parts_of l).status p.status.within (p.sizes b).1 ∙ rw (a_block l.tag p.known b)
