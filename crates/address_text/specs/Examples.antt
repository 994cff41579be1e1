-- A table of cases: spellings with the written form of the address that they name, those of RFC 5952 among them; replies by room, and buffers.
use Rattle.std.specs.Prelude.{ℕ, ◌≡◌, refl, List, [], ◌∷◌, map, replicate, Option, None, Some, Ok, Err}
use Prim.Native.String.{String}
use Rattle.octets.specs.Ascii.{ascii}
use Rattle.ip.specs.Ip.{address_of}
use Rattle.ip_text.specs.Text.{text_of}
use Rattle.output.specs.declared.WriteError.TheVariants.{Malformed, NoRoom}
use Rattle.address_text.specs.Call.{written_of, text_after}
use Rattle.address_text.specs.Computing.{computing}

pub record Case : Type 0 where
  pub spelling : String
  pub text : String

abbrev pub case : String → String → Case
case spelling text = record { spelling = spelling; text = text }

abbrev pub written : Option (List ℕ) → List ℕ
written (Some a) = text_of a
written None = []

abbrev pub cases : List Case
cases =
    case "192.0.2.1" "192.0.2.1"
    -- RFC 5952, section 1: eight spellings of an address
    ∷ case "2001:db8:0:0:1:0:0:1" "2001:db8::1:0:0:1" ∷ case "2001:0db8:0:0:1:0:0:1" "2001:db8::1:0:0:1"
    ∷ case "2001:db8::1:0:0:1" "2001:db8::1:0:0:1" ∷ case "2001:db8::0:1:0:0:1" "2001:db8::1:0:0:1" ∷ case "2001:0db8::1:0:0:1" "2001:db8::1:0:0:1"
    ∷ case "2001:db8:0:0:1::1" "2001:db8::1:0:0:1" ∷ case "2001:db8:0000:0:1::1" "2001:db8::1:0:0:1" ∷ case "2001:DB8:0:0:1::1" "2001:db8::1:0:0:1"
    -- a zone is not written
    ∷ case "fe80::1%eth0" "fe80::1"
    ∷ case "::FFFF:c000:0201" "::ffff:192.0.2.1" ∷ case "64:ff9b::192.0.2.33" "64:ff9b::c000:221" ∷ []

pub cases_hold : map (λ (c : Case). written (address_of (ascii c.spelling))) cases ≡ map (λ (c : Case). ascii c.text) cases
unfolding computing
cases_hold = refl

-- 192.0.2.1 in buffers of 11, 9, 8 and no bytes
abbrev pub host : List ℕ
host = 192 ∷ 0 ∷ 2 ∷ 1 ∷ []

pub replies_hold : map (written_of host) (11 ∷ 9 ∷ 8 ∷ 0 ∷ []) ≡ Ok 9 ∷ Ok 9 ∷ Err (NoRoom 9) ∷ Err (NoRoom 9) ∷ []
unfolding computing
replies_hold = refl

pub buffers_hold : map (λ (n : ℕ). text_after host (replicate n 7)) (11 ∷ 9 ∷ 2 ∷ [])
    ≡ (49 ∷ 57 ∷ 50 ∷ 46 ∷ 48 ∷ 46 ∷ 50 ∷ 46 ∷ 49 ∷ 7 ∷ 7 ∷ []) ∷ ascii "192.0.2.1" ∷ (7 ∷ 7 ∷ []) ∷ []
unfolding computing
buffers_hold = refl

-- an address has four bytes or sixteen
pub refusals_hold : map (λ (n : ℕ). written_of (replicate n 1) 99) (0 ∷ 3 ∷ 5 ∷ 15 ∷ 17 ∷ 32 ∷ []) ≡ replicate 6 (Err Malformed)
unfolding computing
refusals_hold = refl
