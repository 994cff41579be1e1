-- Calls and their buffers, by computing.
use Rattle.std.specs.Prelude.{ℕ, ◌≡◌, refl, List, [], ◌∷◌, ◌++◌, map, length, replicate, Result, Ok, Err}
use Rattle.output.specs.declared.WriteError.{WriteError}
use Rattle.output.specs.declared.WriteError.TheVariants.{Malformed, NoRoom}
use Rattle.prefixes.specs.Call.{ip_range_of, prefixed_of, buffer_after}
use Rattle.prefixes.specs.Computing.{computing}

-- the range, the buffer before and after, and the answer
pub record Case : Type 0 where
  pub range : List ℕ
  pub before : List ℕ
  pub after : List ℕ
  pub answer : Result ℕ WriteError

abbrev case : List ℕ → (before after : List ℕ) → Result ℕ WriteError → Case
case range before after answer = record { range = range; before = before; after = after; answer = answer }

abbrev full : List ℕ
full = replicate 21 255

-- 192.0.2.1 to 192.0.2.6 is .1/32, .2/31, .4/31, .6/32
abbrev one-to-six : List ℕ
one-to-six = 192 ∷ 0 ∷ 2 ∷ 1 ∷ 192 ∷ 0 ∷ 2 ∷ 6 ∷ []

abbrev its_entries : List ℕ
its_entries = 192 ∷ 0 ∷ 2 ∷ 1 ∷ 32 ∷ 192 ∷ 0 ∷ 2 ∷ 2 ∷ 31 ∷ 192 ∷ 0 ∷ 2 ∷ 4 ∷ 31 ∷ 192 ∷ 0 ∷ 2 ∷ 6 ∷ 32 ∷ []

abbrev pub cases : List Case
cases =
    case one-to-six full (its_entries ++ (255 ∷ [])) (Ok 4)
    -- one byte short
    ∷ case one-to-six (replicate 19 255) (replicate 19 255) (Err (NoRoom 4))
    -- first above last, and no range
    ∷ case (192 ∷ 0 ∷ 2 ∷ 6 ∷ 192 ∷ 0 ∷ 2 ∷ 1 ∷ []) full full (Err Malformed)
    ∷ case [] full full (Err Malformed)
    ∷ case (replicate 16 0) full full (Err Malformed)
    -- all of IPv4, and of IPv6
    ∷ case (replicate 4 0 ++ replicate 4 255) (replicate 5 1) (replicate 5 0) (Ok 1)
    ∷ case (replicate 16 0 ++ replicate 16 255) (replicate 17 1) (replicate 17 0) (Ok 1)
    -- one address of IPv6
    ∷ case (replicate 32 7) full (replicate 16 7 ++ (128 ∷ replicate 4 255)) (Ok 1)
    ∷ []

pub answers_hold : map (λ (c : Case). prefixed_of (ip_range_of c.range) (length c.before)) cases ≡ map (λ (c : Case). c.answer) cases
unfolding computing
answers_hold = refl

pub buffers_hold : map (λ (c : Case). buffer_after (ip_range_of c.range) c.before) cases ≡ map (λ (c : Case). c.after) cases
unfolding computing
buffers_hold = refl
