-- Batches on registry S (S13.1): texts of paths, places, and what is answered and written.
use Rattle.std.specs.Prelude.{ℕ, ◌≡◌, refl, List, [], ◌∷◌, map, replicate, take}
use Prim.Native.String.{String}
use Rattle.octets.specs.Ascii.{ascii}
use Rattle.calls.specs.Cases.{registry_s}
use Rattle.calls.specs.Vectors.{whole}
use Rattle.batches.specs.Batch.{batch_of}
use Rattle.batches.specs.Computing.{computing}

-- a text, the places of the list, how many paths are answered, and what is written
pub record Case : Type 0 where
  pub text : String
  pub room : ℕ
  pub count : ℕ
  pub written : List ℕ

abbrev batch : String → ℕ → ℕ → List ℕ → Case
batch text room count written = record { text = text; room = room; count = count; written = written }

unfoldable pub cases : List Case
cases =
    batch "/ip/192.0.2.1" 5 1 (200 ∷ 0 ∷ 1 ∷ 1 ∷ 2 ∷ [])
    ∷ batch "/ip/192.0.2.1\n/ips/rirSearch1/down/192.0.2.0/24\n/ip/9.9.9.9" 15 3 (200 ∷ 0 ∷ 1 ∷ 1 ∷ 2 ∷ 200 ∷ 0 ∷ 8 ∷ 2 ∷ 1 ∷ 4 ∷ 404 ∷ 8 ∷ 1 ∷ 0 ∷ [])
    -- one place fewer: it stops
    ∷ batch "/ip/192.0.2.1\n/ips/rirSearch1/down/192.0.2.0/24\n/ip/9.9.9.9" 14 2 (200 ∷ 0 ∷ 1 ∷ 1 ∷ 2 ∷ 200 ∷ 0 ∷ 8 ∷ 2 ∷ 1 ∷ 4 ∷ [])
    -- a feed after the last path makes one more, empty path; and so does a second feed
    ∷ batch "/help\n" 9 2 (200 ∷ 0 ∷ 6 ∷ 0 ∷ 400 ∷ 3 ∷ 0 ∷ 0 ∷ [])
    ∷ batch "/help\n\n/help" 13 3 (200 ∷ 0 ∷ 6 ∷ 0 ∷ 400 ∷ 3 ∷ 0 ∷ 0 ∷ 200 ∷ 0 ∷ 6 ∷ 0 ∷ [])
    -- an empty text is one empty path
    ∷ batch "" 4 1 (400 ∷ 3 ∷ 0 ∷ 0 ∷ [])
    ∷ batch "" 3 0 []
    ∷ batch "" 0 0 []
    -- reason 9 inside: count says how many are needed, no record numbers, and the next path goes on with what is left
    ∷ batch "/ips/rirSearch1/bottom/192.0.2.0/24\n/ips/rirSearch1/down/192.0.2.0/24\n/help" 8 2 (507 ∷ 9 ∷ 8 ∷ 5 ∷ 507 ∷ 9 ∷ 8 ∷ 2 ∷ [])
    ∷ batch "/ips/rirSearch1/bottom/192.0.2.0/24\n/help" 8 2 (507 ∷ 9 ∷ 8 ∷ 5 ∷ 200 ∷ 0 ∷ 6 ∷ 0 ∷ [])
    ∷ batch "/ips/rirSearch1/bottom/192.0.2.0/24\n/ip/192.0.2.1" 13 2 (200 ∷ 0 ∷ 8 ∷ 5 ∷ 1 ∷ 2 ∷ 3 ∷ 5 ∷ 6 ∷ 507 ∷ 9 ∷ 1 ∷ 1 ∷ [])
    ∷ []

pub cases_hold :
    map (λ (c : Case). whole (batch_of (ascii c.text) registry_s c.room)) cases
    ≡ map (λ (c : Case). 200 ∷ 0 ∷ 0 ∷ 0 ∷ c.count ∷ 0 ∷ 0 ∷ c.written) cases
unfolding cases registry_s whole computing
cases_hold = refl

-- 64 empty paths are answered, as far as there are places; 65 are refused; a bad image goes before that.
pub many_hold :
    whole (batch_of (replicate 63 10) registry_s 9) ∷ whole (batch_of (replicate 64 10) registry_s 9) ∷ whole (batch_of (replicate 64 10) (take 3 registry_s) 9) ∷ []
    ≡ (200 ∷ 0 ∷ 0 ∷ 0 ∷ 2 ∷ 0 ∷ 0 ∷ 400 ∷ 3 ∷ 0 ∷ 0 ∷ 400 ∷ 3 ∷ 0 ∷ 0 ∷ []) ∷ (400 ∷ 10 ∷ 0 ∷ 0 ∷ 0 ∷ 0 ∷ 0 ∷ []) ∷ (500 ∷ 2 ∷ 0 ∷ 0 ∷ 0 ∷ 2 ∷ 0 ∷ []) ∷ []
unfolding registry_s whole computing
many_hold = refl
