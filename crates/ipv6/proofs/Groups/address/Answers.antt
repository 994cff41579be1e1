-- `address` is whole exactly if all sixteen bytes are read.
use mathlib.Core.Path.{ap, ◌∙◌}
use native.Mathlib.Omega.{arith}
use Rattle.ipv4.specs.Ipv4.{exactly}
use Rattle.ipv4.proofs.Octets.{front-exactly}
use Rattle.std.specs.Prelude.{Some, ℕ, List}
use Rattle.ipv6.proofs.Groups.address.Goals as goal

pub returns : goal.returns
returns c =
    let g = c.self.inside in
    c.then_some.ensures ∙ front-exactly 16 g.len g.bytes c.self.told (omega arith) ∙ ap (λ (a : List ℕ). exactly 16 (Some a)) c.self.view_is
