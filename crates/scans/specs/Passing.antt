-- Serves contracts and proofs. Lookup, up and top by one pass.
use Rattle.std.specs.Prelude.{ℕ, Bool, true, false, List}
use Rattle.forest.specs.Blocks.{Block}
use Rattle.forest.specs.Scans.{first_passing, last_passing}
use Rattle.scans.specs.declared.Around.{Around}
use Rattle.scans.specs.declared.Around.TheVariants.{Lookup, Up, Top}

-- whether a block has to be strictly around
abbrev pub strict_by : Around → Bool
strict_by Lookup = false
strict_by Up = true
strict_by Top = true

-- whether the first one is taken, or the last
abbrev pub first_by : Around → Bool
first_by Lookup = false
first_by Up = false
first_by Top = true

-- the first block that passes a test, or else the last, or else the best so far
abbrev pub passing : Bool → (Block → Bool) → List Block → List ℕ → List ℕ
passing true p bs best = first_passing p bs
passing false p bs best = last_passing p bs best
