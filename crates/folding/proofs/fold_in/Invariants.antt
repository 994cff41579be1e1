-- `fold_in`: what is folded, with the rest folded, is the whole text folded.
use mathlib.Core.Path.{◌≡◌}
use mathlib.Core.List.{◌++◌, map}
use lib.ListN.{take, drop}
use Rattle.texts.specs.Host.{fold}
use Rattle.folding.proofs.fold_in.Given as goal

abbrev pub invariant-loop-c : goal.invariant-loop-c
invariant-loop-c l = take l.c-index l.s ++ map fold (drop l.c-index l.s) ≡ map fold l.initial.s
