-- Serves contracts and proofs. The first prefix of a range (S2.6): the zero bits at the low end of its first address decide, capped by its end.
use Rattle.std.specs.Prelude.{ℕ, suc, ◌+◌, ◌^◌, ◌%◌, ◌≤◌, ◌<◌, ◌≡◌}
use Rattle.address.specs.Ranges.{Range}

-- Of the prefixes that start at the range's first address and lie inside it, the one with so many free bits is the largest.
pub record Largest (r : Range) (free : ℕ) : Type 0 where
  pub zeros : r.first % 2 ^ free ≡ 0
  pub inside : r.first + 2 ^ free ≤ suc r.last
  pub next : r.first % 2 ^ suc free ≡ 0 → r.first + 2 ^ suc free ≤ suc r.last → ⊥

-- The range ends with a block that the zero bits of its first address allow, or before that: what remains decides.
pub record Capped (r : Range) : Type 0 where
  pub bits : ℕ
  pub zeros : r.first % 2 ^ bits ≡ 0
  pub ends : suc r.last ≤ r.first + 2 ^ bits

-- The highest bit of n is at place t.
pub record Top (n t : ℕ) : Type 0 where
  pub from : 2 ^ t ≤ n
  pub to : n < 2 ^ suc t
