-- Serves contracts and proofs. What the readers of groups answer: they have room for sixteen bytes.
use Rattle.std.specs.Prelude.{ℕ, List, cond, leb, length, Option, None, Some}

-- only a text of at most so many bytes
unfoldable pub up_to : ℕ → Option (List ℕ) → Option (List ℕ)
up_to n None = None
up_to n (Some a) = cond (leb (length a) n) (Some a) None
