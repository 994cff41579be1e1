-- Filters, by computing.
use Rattle.std.specs.Prelude.{ℕ, ◌≡◌, refl, List, [], ◌∷◌, ◌++◌, map, length, replicate}
use Prim.Native.String.{String}
use Rattle.octets.specs.Ascii.{ascii}
use Rattle.formats.specs.declared.Format.{Format}
use Rattle.formats.specs.declared.Format.TheVariants.{Plain, Cisco, Bird, Juniper, Json}
use Rattle.filters.specs.Filter.{filter_text, room, text_in}
use Rattle.filters.specs.Computing.{computing}

-- 192.0.2.1 to 192.0.2.4
abbrev one-to-four : List ℕ
one-to-four = 192 ∷ 0 ∷ 2 ∷ 1 ∷ 192 ∷ 0 ∷ 2 ∷ 4 ∷ []

-- 2001:db8::/32
abbrev documentation : List ℕ
documentation = 32 ∷ 1 ∷ 13 ∷ 184 ∷ replicate 12 0 ++ (32 ∷ 1 ∷ 13 ∷ 184 ∷ replicate 12 255)

record Case : Type 0 where
  format : Format
  handle : String
  range : List ℕ
  text : String

abbrev case : Format → String → List ℕ → String → Case
case format handle range text = record { format = format; handle = handle; range = range; text = text }

abbrev cases : List Case
cases =
    case Plain "NET-1" one-to-four "NET-1 192.0.2.1/32\nNET-1 192.0.2.2/31\nNET-1 192.0.2.4/32\n"
    ∷ case Plain "NET-6" documentation "NET-6 2001:db8::/32\n"
    ∷ case Cisco "NET-1" one-to-four
    "no ip prefix-list NET-1\nip prefix-list NET-1 permit 192.0.2.1/32\nip prefix-list NET-1 permit 192.0.2.2/31\nip prefix-list NET-1 permit 192.0.2.4/32\n"
    ∷ case Cisco "NET-6" documentation "no ipv6 prefix-list NET-6\nipv6 prefix-list NET-6 permit 2001:db8::/32\n"
    ∷ case Bird "NET-1" one-to-four "NET_1 = [\n    192.0.2.1/32,\n    192.0.2.2/31,\n    192.0.2.4/32\n];\n"
    ∷ case Bird "NET-6" documentation "NET_6 = [\n    2001:db8::/32\n];\n"
    ∷ case Juniper "NET-1" one-to-four
    "policy-options {\nreplace:\n prefix-list NET-1 {\n    192.0.2.1/32;\n    192.0.2.2/31;\n    192.0.2.4/32;\n }\n}\n"
    ∷ case Juniper "NET-6" documentation "policy-options {\nreplace:\n prefix-list NET-6 {\n    2001:db8::/32;\n }\n}\n"
    ∷ case Json "NET-1" one-to-four
    "{ \"NET-1\": [\n    { \"prefix\": \"192.0.2.1\\/32\", \"exact\": true },\n    { \"prefix\": \"192.0.2.2\\/31\", \"exact\": true },\n    { \"prefix\": \"192.0.2.4\\/32\", \"exact\": true }\n] }\n"
    ∷ case Json "NET-6" documentation "{ \"NET-6\": [\n    { \"prefix\": \"2001:db8::\\/32\", \"exact\": true }\n] }\n"
    -- all of IPv4; a range whose first address is above its last, and no range
    ∷ case Plain "ALL" (replicate 4 0 ++ replicate 4 255) "ALL 0.0.0.0/0\n"
    ∷ case Json "NET-1" (192 ∷ 0 ∷ 2 ∷ 4 ∷ 192 ∷ 0 ∷ 2 ∷ 1 ∷ []) ""
    ∷ case Json "NET-1" [] ""
    ∷ []

cases_hold : map (λ (c : Case). filter_text c.format (ascii c.handle) c.range) cases ≡ map (λ (c : Case). ascii c.text) cases
unfolding computing
cases_hold = refl

-- by room, and by the length of the handle
rooms_hold : map (λ (n : ℕ). length (text_in Plain (replicate n 65) one-to-four room)) (63 ∷ 64 ∷ 65 ∷ []) ≡ 231 ∷ 234 ∷ 0 ∷ []
unfolding computing
rooms_hold = refl

short_hold : text_in Plain [] one-to-four 38972 ≡ []
unfolding computing
short_hold = refl
