-- Serves contracts and proofs. A test of each place of a row.
use Rattle.std.specs.Prelude.{Bool, true, ◌&&◌, ℕ, zero, suc, ◌+◌}

-- q holds of each of the n numbers from at on
unfoldable pub run : (ℕ → Bool) → ℕ → ℕ → Bool
run q at zero = true
run q at (suc n) = run q at n && q (at + n)
