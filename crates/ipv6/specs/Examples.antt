-- IPv6 text that is good and that is malformed.
use Rattle.std.specs.Prelude.{◌≡◌, refl, List, [], ◌∷◌, map}
use Rattle.octets.specs.Ascii.{ascii}
use Rattle.ipv4.specs.Examples.{Case, good, malformed}
use Rattle.ipv6.specs.Ipv6.{ipv6}
use Rattle.ipv6.specs.Computing.{computing}

abbrev pub ipv6-cases : List Case
ipv6-cases =
    good "::" (0 ∷ 0 ∷ 0 ∷ 0 ∷ 0 ∷ 0 ∷ 0 ∷ 0 ∷ 0 ∷ 0 ∷ 0 ∷ 0 ∷ 0 ∷ 0 ∷ 0 ∷ 0 ∷ [])
    ∷ good "1:2:3:4:5:6:7::" (0 ∷ 1 ∷ 0 ∷ 2 ∷ 0 ∷ 3 ∷ 0 ∷ 4 ∷ 0 ∷ 5 ∷ 0 ∷ 6 ∷ 0 ∷ 7 ∷ 0 ∷ 0 ∷ [])
    ∷ good "::1.2.3.4" (0 ∷ 0 ∷ 0 ∷ 0 ∷ 0 ∷ 0 ∷ 0 ∷ 0 ∷ 0 ∷ 0 ∷ 0 ∷ 0 ∷ 1 ∷ 2 ∷ 3 ∷ 4 ∷ [])
    ∷ good "1:2:3:4:5:6:1.2.3.4" (0 ∷ 1 ∷ 0 ∷ 2 ∷ 0 ∷ 3 ∷ 0 ∷ 4 ∷ 0 ∷ 5 ∷ 0 ∷ 6 ∷ 1 ∷ 2 ∷ 3 ∷ 4 ∷ [])
    ∷ good "FE80::1" (254 ∷ 128 ∷ 0 ∷ 0 ∷ 0 ∷ 0 ∷ 0 ∷ 0 ∷ 0 ∷ 0 ∷ 0 ∷ 0 ∷ 0 ∷ 0 ∷ 0 ∷ 1 ∷ [])
    ∷ malformed "1:2:3:4:5:6:7:8::" ∷ malformed "1::2::3" ∷ malformed ":::" ∷ malformed "1:2:3:4:5:6:7" ∷ malformed "12345::"
    ∷ malformed "1.2.3.4::" ∷ malformed "::01.2.3.4" ∷ malformed "::1.2.3.4:5" ∷ malformed "fe80::1%eth0" ∷ malformed "" ∷ []

pub ipv6_hold : map (λ (c : Case). ipv6 (ascii c.text)) ipv6-cases ≡ map (λ (c : Case). c.bytes) ipv6-cases
unfolding computing
ipv6_hold = refl
