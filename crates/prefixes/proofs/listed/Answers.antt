-- The answers are those of Answers.antt: no range, too little room, written.
use Prim.Native.Nat.{◌≤◌}
use mathlib.Core.Path.{refl, sym, ◌∙◌}
use Rattle.std.proofs.lemmas.Result.{err_from_is_err_and}
use Rattle.output.proofs.Writing.{all-put, nothing_put}
use Rattle.next_prefix.specs.Walked.{walked}
use Rattle.prefix_bytes.specs.Entry.{entries_of}
use Rattle.prefix_walk.specs.Entries.{Ordered}
use Rattle.prefixes.proofs.Room.{told-short, told-enough}
use Rattle.prefixes.proofs.Answers.{ordered, refused, told}
use Rattle.prefixes.proofs.listed.Goals as goal
use Rattle.prefixes.proofs.listed.Goals.{After-number_at-last}

-- what was read
module _ (c : After-number_at-last) where
  in_order_lem : c.number_at-first.result ≤ c.number_at-last.result → Ordered c.args.width c.number_at-first.result c.number_at-last.result
  in_order_lem =
      ordered c.args.range.now c.args.width c.requires.1 c.number_at-first.result c.number_at-last.result c.number_at-first.ensures c.number_at-last.ensures c.requires.0
      (λ i h. (c.type_inv.range i).fits)

pub returns-then-last-first : goal.returns-then-last-first
returns-then-last-first c =
    let t = refused c.args.range.now c.args.width c.requires.1 c.number_at-first.result c.number_at-last.result c.number_at-first.ensures c.number_at-last.ensures
    c.args.out.now c.if-last-first.true in
    record { numbers = t.0; out = t.1 }

pub check_room-requires : goal.check_room-requires
check_room-requires c = in_order_lem (goal.at.check_room-requires c).After-number_at-last c.if-last-first.false

pub write-requires : goal.write-requires
write-requires c = (
  in_order_lem (goal.at.write-requires c).After-number_at-last c.if-last-first.false,
  told-enough _ _ _ (sym c.in_ok-check_room.was ∙ c.check_room.ensures),
)

pub returns-in_err-check_room : goal.returns-in_err-check_room
returns-in_err-check_room c =
    let first = c.number_at-first.result in
    let last = c.number_at-last.result in
    let p = err_from_is_err_and c.from_residual.result c.from_residual.ensures.1 in
    let short = told-short _ _ _ (sym c.in_err-check_room.was ∙ c.check_room.ensures) in
    let t = told c.args.range.now c.args.width c.requires.1 first last c.number_at-first.ensures c.number_at-last.ensures c.args.out.now
    (in_order_lem (goal.at.returns-in_err-check_room c).After-number_at-last c.if-last-first.false)
    (nothing_put (entries_of c.args.width (walked first last)) c.args.out.now refl short.0) in
    record { numbers = rw (p.1, p.2, short.1) t.0; out = t.1 }

pub returns : goal.returns
returns c =
    let first = c.number_at-first.result in
    let last = c.number_at-last.result in
    let done = c.write.ensures in
    let t = told c.args.range.now c.args.width c.requires.1 first last c.number_at-first.ensures c.number_at-last.ensures c.args.out.now
    (in_order_lem (goal.at.returns c).After-number_at-last c.if-last-first.false)
    (all-put (entries_of c.args.width (walked first last)) c.args.out.now done.counted (told-enough _ _ _ (sym c.in_ok-check_room.was ∙ c.check_room.ensures)) done.is) in
    record { numbers = t.0; out = t.1 }
