-- A table of cases: addresses and their texts, those of RFC 5952 and of the request among them.
use Rattle.std.specs.Prelude.{ℕ, ◌≡◌, refl, List, [], ◌∷◌, map, length, replicate}
use Prim.Native.String.{String}
use Rattle.octets.specs.Ascii.{ascii}
use Rattle.ip_text.specs.Text.{text_of}
use Rattle.ip_groups.specs.Runs.{bytes_of}
use Rattle.ip_text.specs.Computing.{computing}

pub record Case : Type 0 where
  pub address : List ℕ
  pub text : String

-- an IPv4 address by its bytes, an IPv6 address by its groups
abbrev pub v4 : (a b c d : ℕ) → String → Case
v4 a b c d text = record { address = a ∷ b ∷ c ∷ d ∷ []; text = text }

abbrev pub v6 : (a b c d e f g h : ℕ) → String → Case
v6 a b c d e f g h text = record { address = bytes_of (a ∷ b ∷ c ∷ d ∷ e ∷ f ∷ g ∷ h ∷ []); text = text }

abbrev pub cases : List Case
cases =
    v4 0 0 0 0 "0.0.0.0" ∷ v4 192 0 2 1 "192.0.2.1" ∷ v4 10 99 100 255 "10.99.100.255"
    -- the request's
    ∷ v6 8193 3512 0 0 1 0 0 1 "2001:db8::1:0:0:1"
    -- RFC 5952, 4.1 and 4.3: no leading zeros, lower case
    ∷ v6 8193 3512 0 0 0 0 0 1 "2001:db8::1" ∷ v6 8193 3512 43690 48059 52428 56797 61166 1 "2001:db8:aaaa:bbbb:cccc:dddd:eeee:1"
    -- 4.2.1: shortened as much as possible; 4.2.2: not one group alone; 4.2.3: the longest run, the first of equal ones
    ∷ v6 8193 3512 0 0 0 0 2 1 "2001:db8::2:1" ∷ v6 8193 3512 0 1 1 1 1 1 "2001:db8:0:1:1:1:1:1"
    ∷ v6 8193 0 0 1 0 0 0 1 "2001:0:0:1::1" ∷ v6 1 0 0 0 2 0 0 3 "1::2:0:0:3"
    -- at the ends, and none
    ∷ v6 0 0 0 0 0 0 0 0 "::" ∷ v6 0 0 0 0 0 0 0 1 "::1" ∷ v6 1 0 0 0 0 0 0 0 "1::" ∷ v6 1 2 3 4 5 6 0 0 "1:2:3:4:5:6::"
    ∷ v6 0 1 0 1 0 1 0 1 "0:1:0:1:0:1:0:1"
    -- a dotted tail for ::ffff:0:0/96 and no other
    ∷ v6 0 0 0 0 0 65535 49152 513 "::ffff:192.0.2.1" ∷ v6 0 0 0 0 0 65535 0 0 "::ffff:0.0.0.0"
    ∷ v6 0 0 0 0 0 0 49152 513 "::c000:201" ∷ v6 0 0 0 0 0 65534 49152 513 "::fffe:c000:201" ∷ v6 0 0 0 0 1 65535 49152 513 "::1:ffff:c000:201"
    ∷ v6 100 65435 0 0 0 0 49152 545 "64:ff9b::c000:221" ∷ []

pub cases_hold : map (λ (c : Case). text_of c.address) cases ≡ map (λ (c : Case). ascii c.text) cases
unfolding computing
cases_hold = refl

-- the longest texts: 15 and 39 bytes
pub longest_hold : map (λ (n : ℕ). length (text_of (replicate n 255))) (4 ∷ 16 ∷ []) ≡ 15 ∷ 39 ∷ []
unfolding computing
longest_hold = refl
