-- The bytes of a number have its value.
use mathlib.Core.Path.{ap, ◌∙◌}
use native.Mathlib.Omega.{arith}
use Rattle.octets.specs.Number.{value}
use Rattle.octets.proofs.BigEndian.{value-high_first}
use Rattle.address.proofs.from_number.Goals as goal

pub returns : goal.returns
returns c = ap value c.to_be_bytes.ensures ∙ value-high_first 16 c.from.result (omega arith) ∙ c.from.ensures
