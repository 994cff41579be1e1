-- Ranges and their prefixes, by computing.
use Rattle.std.specs.Prelude.{ℕ, ◌-◌, ◌^◌, ◌≡◌, refl, List, [], ◌∷◌, map, length}
use Rattle.address.specs.Ranges.{Range}
use Rattle.cidr.specs.Prefixes.{Prefix, prefix, from-to, prefixes_of}
use Rattle.cidr.specs.Computing.{computing}

pub record Case : Type 0 where
  pub bits : ℕ
  pub range : Range
  pub prefixes : List Prefix

abbrev case : ℕ → Range → List Prefix → Case
case bits range prefixes = record { bits = bits; range = range; prefixes = prefixes }

abbrev pub cases : List Case
cases =
    -- 192.0.2.1 to 192.0.2.6 is .1/32, .2/31, .4/31, .6/32
    case 32 (from-to 3221225985 3221225990) (prefix 3221225985 0 ∷ prefix 3221225986 1 ∷ prefix 3221225988 1 ∷ prefix 3221225990 0 ∷ [])
    -- one address
    ∷ case 32 (from-to 3221225985 3221225985) (prefix 3221225985 0 ∷ [])
    ∷ case 128 (from-to 0 0) (prefix 0 0 ∷ [])
    -- a whole family
    ∷ case 32 (from-to 0 4294967295) (prefix 0 32 ∷ [])
    ∷ case 128 (from-to 0 340282366920938463463374607431768211455) (prefix 0 128 ∷ [])
    -- a half but for its last address, a half but for its first
    ∷ case 3 (from-to 0 2) (prefix 0 1 ∷ prefix 2 0 ∷ [])
    ∷ case 3 (from-to 5 7) (prefix 5 0 ∷ prefix 6 1 ∷ [])
    -- the zero bits at the low end allow more than the end does
    ∷ case 32 (from-to 0 5) (prefix 0 2 ∷ prefix 4 1 ∷ [])
    ∷ []

pub cases_hold : map (λ (c : Case). prefixes_of c.bits c.range) cases ≡ map (λ (c : Case). c.prefixes) cases
unfolding computing
cases_hold = refl

-- the most prefixes: 62 for IPv4, 254 for IPv6
pub most : map (λ (w : ℕ). length (prefixes_of w (from-to 1 (2 ^ w - 2)))) (2 ∷ 3 ∷ 32 ∷ 128 ∷ []) ≡ 2 ∷ 4 ∷ 62 ∷ 254 ∷ []
unfolding computing
most = refl
