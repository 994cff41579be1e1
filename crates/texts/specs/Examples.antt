-- Host names that are good and that are not.
use Prim.Native.String.{String}
use Rattle.std.specs.Prelude.{◌≡◌, refl, List, [], ◌∷◌, map, true, false}
use Rattle.octets.specs.Ascii.{ascii}
use Rattle.texts.specs.Host.{is_host_name}
use Rattle.texts.specs.Computing.{computing}

abbrev pub hosts : List String
hosts =
    "aaaaaaaaaaaaaaaaaaaaaaaaaaaaaaaaaaaaaaaaaaaaaaaaaaaaaaaaaaaaaaa.com"
    ∷ "example.com" ∷ "EXAMPLE.com" ∷ "2.0.192.in-addr.arpa" ∷ "a" ∷ "xn--fo-5ja" ∷ []

abbrev pub no_hosts : List String
no_hosts =
    "aaaaaaaaaaaaaaaaaaaaaaaaaaaaaaaaaaaaaaaaaaaaaaaaaaaaaaaaaaaaaaaa.com"
    ∷ "" ∷ "." ∷ "a..b" ∷ "-a.com" ∷ "a-.com" ∷ "a_b.com" ∷ "example.com." ∷ "exam*.com" ∷ []

pub hosts_hold : map (λ (s : String). is_host_name (ascii s)) hosts ≡ true ∷ true ∷ true ∷ true ∷ true ∷ true ∷ []
unfolding computing
hosts_hold = refl

pub no_hosts_hold : map (λ (s : String). is_host_name (ascii s)) no_hosts ≡ false ∷ false ∷ false ∷ false ∷ false ∷ false ∷ false ∷ false ∷ false ∷ []
unfolding computing
no_hosts_hold = refl
