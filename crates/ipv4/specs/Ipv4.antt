-- S8.1: IPv4address of RFC 3986, section 3.2.2, as the bytes of the address, high byte first; none where the text is malformed.
use Rattle.std.specs.Prelude.{ℕ, List, [], ◌∷◌, ◌++◌, cond, eqb, length, Option, None, Some}
use Prim.Native.Char.{code}
use Rattle.numeral.specs.Numeral.{decimal}
use Rattle.octets.specs.Split.{split}

-- the bytes a in front of others, if there are any others
unfoldable pub prefixed : List ℕ → Option (List ℕ) → Option (List ℕ)
prefixed a None = None
prefixed a (Some b) = Some (a ++ b)

unfoldable pub joined : Option (List ℕ) → Option (List ℕ) → Option (List ℕ)
joined None o = None
joined (Some a) o = prefixed a o

-- only a text of so many bytes
unfoldable pub exactly : ℕ → Option (List ℕ) → Option (List ℕ)
exactly n None = None
exactly n (Some a) = cond (eqb (length a) n) (Some a) None

unfoldable pub one_byte : Option ℕ → Option (List ℕ)
one_byte (Some v) = Some (v ∷ [])
one_byte None = None

-- each piece a decimal 0 to 255
unfoldable pub octets : List (List ℕ) → Option (List ℕ)
octets [] = Some []
octets (p ∷ ps) = joined (one_byte (decimal 255 p)) (octets ps)

-- four octets separated by dots
unfoldable pub ipv4 : List ℕ → Option (List ℕ)
ipv4 s = exactly 4 (octets (split (code ".") s))
