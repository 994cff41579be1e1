-- The run of the family's blocks is asked.
use mathlib.Core.Path.{sym, ◌∙◌}
use native.Mathlib.Omega.{arith}
use Rattle.nesting.proofs.Families.{low-family}
use Rattle.relations.proofs.find.Goals as goal

pub run_of-blocks-requires : goal.run_of-blocks-requires
run_of-blocks-requires c = (omega arith, omega (arith, low-family c.args.family c.requires.0))

pub list_found-requires : goal.list_found-requires
list_found-requires c =
    let p = c.requires in
    let run = c.run_of-blocks.ensures in
    record { selected = record { count = _; indexed = c.args.image.indexed; run_of = run.2 }; one = run.1 ∙ sym run.0; block = rw run.0 p.0; proper = p.1 }

pub returns : goal.returns
returns c = rw c.run_of-blocks.ensures.0 at c.list_found.ensures
