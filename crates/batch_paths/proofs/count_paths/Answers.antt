-- A text has one path more than it has line feeds.
use mathlib.Core.Path.{◌≡◌}
use mathlib.Core.List.{[]}
use native.Mathlib.Omega.{arith}
use lib.ListN.{drop, drop_of_length-le}
use Rattle.batch_paths.proofs.Splitting.{paths_counted}
use Rattle.batch_paths.proofs.count_paths.Goals as goal

pub returns : goal.returns
returns c =
    let text = c.args.text.now in
    let none : drop c.loop-b.b-index text ≡ [] = drop_of_length-le text (omega arith) in
    omega (arith, rw none at c.loop-b.invariant.1, paths_counted text)
