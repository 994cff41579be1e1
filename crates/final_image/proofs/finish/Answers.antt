-- The verdict, the room, and then the start and the records written (Finals.antt).
use mathlib.Core.Path.{◌≡◌, sym, ◌∙◌, ap}
use Prim.Native.Nat.{ℕ, ◌+◌, ◌*◌, ◌≤◌}
use native.Mathlib.Omega.{arith}
use mathlib.Core.List.{List}
use lib.ListN.{length, length-take}
use lib.Seq.{length-take-le}
use Rattle.image.proofs.Walk.{start-length}
use Rattle.registry.specs.Limits.{most_image}
use Rattle.changes.specs.Limits.{most_entries}
use Rattle.merged.specs.Listed.{listed, image_in}
use Rattle.output.specs.Writing.{Written}
use Rattle.output.proofs.Writing.{written_both}
use Rattle.final_image.proofs.Finals.{finish_bad, finish_full, finish_written, image-size}
use Rattle.final_image.proofs.finish.Goals as goal
use Rattle.final_image.proofs.finish.Goals.{After-final_verdict-verdict, After-put_records-rest}

pub final_verdict-verdict-requires : goal.final_verdict-verdict-requires
final_verdict-verdict-requires c =
    (c.requires.0, c.requires.1, ap (λ (n : ℕ). 4 + n) c.size-size.ensures.is)

pub returns-in-Err : goal.returns-in-Err
returns-in-Err c =
    finish_bad _ _ _ c.final_verdict-verdict.ensures _ c.in-Err.is

-- the size of the final image
size : (v : After-final_verdict-verdict) → 4 + v.size-size.result ≡ length (image_in v.args.records.now)
size v = image-size v.args.records.now.image.now (listed v.args.records.now) v.requires.1 _ v.size-size.ensures.is

pub returns-then-out-size : goal.returns-then-out-size
returns-then-out-size c =
    finish_full _ _ _ c.final_verdict-verdict.ensures _ c.in_default.is _ (size (goal.at.returns-then-out-size c).After-final_verdict-verdict) c.if-out-size.true

pub slice_bounds-put_bytes-end : goal.slice_bounds-put_bytes-end
slice_bounds-put_bytes-end c =
    sym (length-take-le 4 c.args.records.now.image.now (start-length c.args.records.now.image.now c.requires.1))

pub put_bytes-requires : goal.put_bytes-requires
put_bytes-requires c =
    omega (arith, length-take 4 c.args.records.now.image.now, c.if-out-size.false)

-- what is written is no more than that
small : (c : After-put_records-rest) → c.put_records-rest.result ≤ most_image * most_entries
small c =
    omega (arith, c.put_records-rest.ensures.size, c.size-size.ensures.is, c.size-size.ensures.bounded)

pub overflow_add-result : goal.overflow_add-result
overflow_add-result c = omega (arith, small (goal.at.overflow_add-result c).After-put_records-rest)

pub overflow_cast-result-2 : goal.overflow_cast-result-2
overflow_cast-result-2 c = omega (arith, small (goal.at.overflow_cast-result-2 c).After-put_records-rest)

of_size : {s a b : List ℕ} {m n : ℕ} → m ≡ n → Written s a b m → Written s a b n
of_size e w = rw e at w

pub returns : goal.returns
returns c =
    let l = length-take-le 4 c.args.records.now.image.now (start-length c.args.records.now.image.now c.requires.1) in
    let f = of_size (c.put_bytes.ensures.size ∙ l) c.put_bytes.ensures in
    finish_written _ _ _ c.final_verdict-verdict.ensures _ c.in_default.is _ (size (goal.at.returns c).After-final_verdict-verdict) c.if-out-size.false _ _ (written_both f c.put_records-rest.ensures)
