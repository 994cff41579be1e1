-- S8.1: IPv6address of RFC 3986, section 3.2.2, as the bytes of the address, high byte first; none where the text is malformed.
use Rattle.std.specs.Prelude.{ℕ, ◌+◌, ◌/◌, ◌%◌, List, [], ◌∷◌, Bool, true, false, cond, ltb, length, take, drop, Option, None, Some}
use Prim.Native.Char.{code}
use Rattle.numeral.specs.Numeral.{h16}
use Rattle.octets.specs.Split.{split}
use Rattle.ipv4.specs.Ipv4.{joined, exactly, ipv4}
use Rattle.elision.specs.Elision.{elided, elision}

unfoldable pub two_bytes : Option ℕ → Option (List ℕ)
two_bytes (Some v) = Some (v / 256 ∷ v % 256 ∷ [])
two_bytes None = None

-- one group of hex digits
unfoldable pub group : List ℕ → Option (List ℕ)
group p = two_bytes (h16 p)

unfoldable pub or_else : Option (List ℕ) → Option (List ℕ) → Option (List ℕ)
or_else None o = o
or_else (Some a) o = Some a

-- the last group; where tail says so, an IPv4 address may stand there
unfoldable pub last_group : Bool → List ℕ → Option (List ℕ)
last_group true p = or_else (group p) (ipv4 p)
last_group false p = group p

-- one or more groups, of which the last is as above
unfoldable pub groups : Bool → List (List ℕ) → Option (List ℕ)
groups tail [] = None
groups tail (p ∷ []) = last_group tail p
groups tail (p ∷ q ∷ ps) = joined (group p) (groups tail (q ∷ ps))

-- a side of "::": nothing, or groups
unfoldable pub side : Bool → List ℕ → Option (List ℕ)
side tail [] = Some []
side tail (c ∷ s) = groups tail (split (code ":") (c ∷ s))

-- IPv6address
unfoldable pub ipv6 : List ℕ → Option (List ℕ)
ipv6 s =
    let at : ℕ = elision s in
    let short : Option (List ℕ) = elided (side false (take at s)) (side true (drop (at + 2) s)) in
    let full : Option (List ℕ) = exactly 16 (groups true (split (code ":") s)) in
    cond (ltb at (length s)) short full
