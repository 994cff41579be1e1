-- IPv4 text that is good and that is malformed.
use Rattle.std.specs.Prelude.{ℕ, ◌≡◌, refl, List, [], ◌∷◌, map, Option, None, Some}
use Prim.Native.String.{String}
use Rattle.octets.specs.Ascii.{ascii}
use Rattle.ipv4.specs.Ipv4.{ipv4}
use Rattle.ipv4.specs.Computing.{computing}

pub record Case : Type 0 where
  pub text : String
  pub bytes : Option (List ℕ)

abbrev pub good : String → List ℕ → Case
good text bytes = record { text = text; bytes = Some bytes }

abbrev pub malformed : String → Case
malformed text = record { text = text; bytes = None }

abbrev pub ipv4-cases : List Case
ipv4-cases =
    good "192.0.2.1" (192 ∷ 0 ∷ 2 ∷ 1 ∷ []) ∷ good "255.255.255.255" (255 ∷ 255 ∷ 255 ∷ 255 ∷ [])
    ∷ malformed "01.2.3.4" ∷ malformed "256.0.0.0" ∷ malformed "1.2.3" ∷ malformed "1.2.3.4.5" ∷ malformed "1.2.3." ∷ malformed "1.2.3.+4" ∷ malformed "::" ∷ []

pub ipv4_hold : map (λ (c : Case). ipv4 (ascii c.text)) ipv4-cases ≡ map (λ (c : Case). c.bytes) ipv4-cases
unfolding computing
ipv4_hold = refl
