-- Serves contracts and proofs. What the reader of an address answers.
use Rattle.std.specs.Prelude.{ℕ, List, cond, eqb, length, Option, None, Some}
use Rattle.address.specs.Address.{address_at}
use Rattle.ip.specs.declared.Family.{Family}
use Rattle.ip.specs.declared.Family.TheVariants.{V4, V6}
use Rattle.ip.specs.declared.IpAddress.{IpAddress}

-- the family by the number of bytes, and the bytes right-aligned in the sixteen, zeros before them
unfoldable pub answer : Option (List ℕ) → Option IpAddress
answer None = None
answer (Some bytes) = Some (record { family = cond (eqb (length bytes) 4) V4 V6; address = address_at bytes 0 (length bytes) })

-- how many bytes an address of the family has
abbrev pub width_of : Family → ℕ
width_of V4 = 4
width_of V6 = 16
