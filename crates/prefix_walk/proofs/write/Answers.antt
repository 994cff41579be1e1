-- The entries of the climb, and the others into the rest of the buffer.
use Prim.Native.Nat.{◌+◌, ◌≤◌}
use native.Mathlib.Omega.{arith}
use lib.ListN.{length}
use Rattle.output.proofs.Writing.{rest-length, rest-fits}
use Rattle.prefix_bytes.specs.Entry.{entries_of}
use Rattle.next_prefix.specs.Walked.{walked}
use Rattle.prefix_bytes.proofs.Widths.{at-most-sixteen}
use Rattle.prefix_walk.proofs.Writing.{both-listed}
use Rattle.prefix_walk.proofs.Few.{few}
use Rattle.prefix_walk.proofs.write.Goals as goal
use Rattle.prefix_walk.proofs.write.Goals.{After-climb-stop}

-- where the climbing ended
module _ (c : After-climb-stop) where
  inside : c.climb-stop.result.at + length (entries_of c.args.width (walked c.climb-stop.result.start c.args.last)) ≤ length c.climb-stop.new.out
  inside = rest-fits c.climb-stop.ensures.entered.reached c.requires.1

pub slice_bounds-descend-count : goal.slice_bounds-descend-count
slice_bounds-descend-count c = omega (arith, inside (goal.at.slice_bounds-descend-count c).After-climb-stop)

pub slice_bounds-descend-start : goal.slice_bounds-descend-start
slice_bounds-descend-start c = omega (arith, inside (goal.at.slice_bounds-descend-start c).After-climb-stop)

pub descend-requires : goal.descend-requires
descend-requires c =
    let o = c.requires.0 in (
      record { wide = o.wide; forward = c.climb-stop.ensures.forward; below = o.below },
      c.climb-stop.ensures.capped,
      omega (arith, inside (goal.at.descend-requires c).After-climb-stop, rest-length c.climb-stop.new.out c.climb-stop.result.at),
    )

pub overflow_add-result : goal.overflow_add-result
overflow_add-result c =
    let all = both-listed c.climb-stop.ensures.entered c.descend.ensures in
    omega (arith, all.counted, few c.requires.0, at-most-sixteen c.requires.0.wide)

pub returns : goal.returns
returns c = both-listed c.climb-stop.ensures.entered c.descend.ensures
