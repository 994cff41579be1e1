use mathlib.Core.Path.{◌≡◌, refl, sym, ◌∙◌, ap, subst}
use mathlib.Core.Bool.{Bool}
use mathlib.Core.List.{List}
use Prim.Native.Nat.{ℕ, ◌+◌, ◌-◌, ◌*◌, ◌≤◌}
use native.Mathlib.Omega.{arith}
use lib.ListN.{length, get_or}
use lib.Dec.{leb}
use Rattle.registry.specs.Tags.{width_of}
use Rattle.octets.specs.Positions.{Wide, number_in}
use Rattle.address.specs.Ranges.{Range}
use Rattle.records.specs.Record.{range_of, first_of, last_of}
use Rattle.nesting.proofs.Families.{wide-family}
use Rattle.nesting.proofs.Search.{nest-none, nest_on, nest-under, nest-out}
use Rattle.merged.specs.Held.{parsed_from, Recorded}
use Rattle.merged.specs.Listed.{bytes_in}
use Rattle.overlaps.specs.Overlaps.{open_last}
use Rattle.merged.proofs.Known.{known}
use Rattle.overlaps.proofs.Nests.{first_read, last-read, room-read}
use Rattle.overlaps.proofs.nest.Goals as goal
use Rattle.overlaps.proofs.nest.Goals.{After-record_at-open, At-loop-d}

pub bounds-r-0 : goal.bounds-r-0
bounds-r-0 c = omega (arith, (known _ c.requires.whole).long)

pub loop-d-init : goal.loop-d-init
loop-d-init c =
    (omega arith, c.width_of-width.ensures.0 ∙ ap width_of (known _ c.requires.whole).tag_is, refl)

pub bounds-stack-d : goal.bounds-stack-d
bounds-stack-d c = omega (arith, c.loop-d.invariant.0, c.requires.few)

-- the open block that is compared
record Open (r o x : List ℕ) (w : ℕ) : Type 0 where
  is_wide : Wide w
  own_room : 6 + 2 * w ≤ length r
  room : 6 + 2 * w ≤ length o
  first-test : (t : Bool) → t ≡ leb (number_in r 6 w) (number_in o (6 + w) w) → leb (first_of (parsed_from r)) (last_of (parsed_from x)) ≡ t
  last-test : (t : Bool) → t ≡ leb (number_in r (6 + w) w) (number_in o (6 + w) w) → leb (last_of (parsed_from r)) (last_of (parsed_from x)) ≡ t

open_by : (r x : List ℕ) (w : ℕ) → Recorded r → (parsed_from r).tag ≤ 18 → Recorded x → (parsed_from x).tag ≡ (parsed_from r).tag → w ≡ width_of (parsed_from r).tag → (o : List ℕ) → o ≡ x → Open r o x w
open_by r x w k h l e z o q =
    let y : w ≡ width_of (parsed_from x).tag = z ∙ ap width_of (sym e) in
    let g : (parsed_from x).tag ≤ 18 = omega (arith, e, h) in
    rw q (record {
      is_wide = subst Wide (sym z) (wide-family (parsed_from r).tag);
      own_room = room-read r k h w z;
      room = room-read x l g w y;
      first-test = λ t f. sym (f ∙ rw (first_read r k h w z, last-read x l g w y));
      last-test = λ t f. sym (f ∙ rw (last-read r k h w z, last-read x l g w y));
    })

opened : (c : After-record_at-open) → let a = c.args in
    Open a.r.now c.record_at-open.result.now (bytes_in a.records.now (get_or a.stack.now (c.loop-d.d - 1) 0)) c.width_of-width.result
opened c =
    let l = c.loop-d in
    let p = c.requires in
    let q = p.opened (l.d - 1) (omega (arith, l.invariant.0, c.loop-d-test.true)) in
    open_by _ _ _ p.whole p.block q.0 q.1 l.invariant.1 _ c.record_at-open.ensures

pub overflow_add-width : goal.overflow_add-width
overflow_add-width c = omega (arith, (opened c).own_room)

pub numbers_at_most-requires : goal.numbers_at_most-requires
numbers_at_most-requires c =
    let o = opened c in
    (o.is_wide, omega (arith, o.own_room), omega (arith, o.room))

pub overflow_add-width-then-numbers_at_most : goal.overflow_add-width-then-numbers_at_most
overflow_add-width-then-numbers_at_most c = omega (arith, (opened (goal.at.overflow_add-width-then-numbers_at_most c).After-record_at-open).own_room)

pub overflow_add-width-then-numbers_at_most-2 : goal.overflow_add-width-then-numbers_at_most-2
overflow_add-width-then-numbers_at_most-2 c = omega (arith, (opened (goal.at.overflow_add-width-then-numbers_at_most-2 c).After-record_at-open).own_room)

pub numbers_at_most-requires-then-numbers_at_most : goal.numbers_at_most-requires-then-numbers_at_most
numbers_at_most-requires-then-numbers_at_most c =
    let o = opened (goal.at.numbers_at_most-requires-then-numbers_at_most c).After-record_at-open in
    (o.is_wide, omega (arith, o.own_room), omega (arith, o.room))

-- the open blocks and the range, as the laws take them
abbrev opens : At-loop-d → ℕ → ℕ
opens l = let a = l.args in open_last a.records.now a.stack.now

abbrev range : At-loop-d → Range
range l = range_of (parsed_from l.args.r.now)

pub returns-then-numbers_at_most-2 : goal.returns-then-numbers_at_most-2
returns-then-numbers_at_most-2 c =
    let e : c.loop-d.d - 1 + 1 ≡ c.loop-d.d = omega (arith, c.loop-d-test.true) in
    rw e (nest-under (opens (goal.at.returns-then-numbers_at_most-2 c).At-loop-d) (range (goal.at.returns-then-numbers_at_most-2 c).At-loop-d) c.args.depth c.loop-d.d c.loop-d.invariant.2 c.loop-d-test.true
    ((opened (goal.at.returns-then-numbers_at_most-2 c).After-record_at-open).first-test _ c.numbers_at_most.ensures ∙ c.if-numbers_at_most.true) ((opened (goal.at.returns-then-numbers_at_most-2 c).After-record_at-open).last-test _ c.numbers_at_most-then-numbers_at_most.ensures ∙ c.if-numbers_at_most-2.true))

pub returns-then-numbers_at_most : goal.returns-then-numbers_at_most
returns-then-numbers_at_most c =
    nest-out (opens (goal.at.returns-then-numbers_at_most c).At-loop-d) (range (goal.at.returns-then-numbers_at_most c).At-loop-d) c.args.depth c.loop-d.d c.loop-d.invariant.2 c.loop-d-test.true
    ((opened (goal.at.returns-then-numbers_at_most c).After-record_at-open).first-test _ c.numbers_at_most.ensures ∙ c.if-numbers_at_most.true) ((opened (goal.at.returns-then-numbers_at_most c).After-record_at-open).last-test _ c.numbers_at_most-then-numbers_at_most.ensures ∙ c.if-numbers_at_most-2.false)

pub loop-d-preserved : goal.loop-d-preserved
loop-d-preserved c = (
  omega (arith, c.loop-d.invariant.0),
  c.loop-d.invariant.1,
  nest_on (opens (goal.at.loop-d-preserved c).At-loop-d) (range (goal.at.loop-d-preserved c).At-loop-d) c.args.depth c.loop-d.d c.loop-d.invariant.2 c.loop-d-test.true ((opened (goal.at.loop-d-preserved c).After-record_at-open).first-test _ c.numbers_at_most.ensures ∙ c.if-numbers_at_most.false),
)

pub returns : goal.returns
returns c =
    nest-none (opens (goal.at.returns c).At-loop-d) (range (goal.at.returns c).At-loop-d) c.args.depth c.loop-d.d c.loop-d.invariant.2 c.loop-d-test.false
