-- `links::gather` meets its contract: the starts stored so far are those of the first blocks.
use Prim.Native.Nat.{ℕ, ◌+◌, ◌-◌, ◌≤◌, ◌<◌}
use mathlib.Core.Path.{◌≡◌, ◌∙◌}
use native.Mathlib.Omega.{arith}
use lib.ListN.{length, get_or, length-set}
use Rattle.links.proofs.Gathers.{start-more}
use borrow.Author.Rules.{rules}
use Rattle.links.proofs.gather.Given as goal

abbrev pub invariant-loop-i : goal.invariant-loop-i
invariant-loop-i l = (l.fn.blocks.from + l.n ≡ l.i)
    × (l.i ≤ l.fn.blocks.until)
    × (length l.firsts ≡ 4096)
    × ((k : ℕ) → k < l.n → get_or l.firsts k 0 ≡ get_or l.starts (l.fn.blocks.from + k) 0 + 6)
