-- S8.5 as a theorem over every text: a, before the first percent sign, has none.
use Rattle.std.specs.Prelude.{ℕ, ◌≤◌, ◌≡◌, List, [], ◌∷◌, ◌++◌, false, length, None}
use Prim.Native.Char.{code}
use Rattle.octets.specs.Lists.{contains}
use Rattle.ipv4.specs.Ipv4.{ipv4}
use Rattle.ipv6.specs.Ipv6.{or_else, ipv6}
use Rattle.ip.specs.Ip.{address_of}

pub record Zones : Type 0 where
  -- a zone is ignored, whatever it holds; what stands before it is IPv6 text
  pub ignored : (a zone : List ℕ) → contains (code "%") a ≡ false → 1 ≤ length zone → address_of (a ++ (code "%" ∷ zone)) ≡ ipv6 a
  -- a percent sign that nothing follows makes the address malformed
  pub unfollowed : (a : List ℕ) → contains (code "%") a ≡ false → address_of (a ++ (code "%" ∷ [])) ≡ None
  -- without a percent sign, of either family
  pub unzoned : (a : List ℕ) → contains (code "%") a ≡ false → address_of a ≡ or_else (ipv4 a) (ipv6 a)
