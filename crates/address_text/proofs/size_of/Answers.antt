-- Every text fits into 39 bytes.
use native.Mathlib.Omega.{arith}
use Rattle.ip_text.proofs.Lengths.{text-most}
use Rattle.address_text.proofs.size_of.Goals as goal

pub put_text-requires : goal.put_text-requires
put_text-requires c =
    let a = c.args.address.now in
    (c.requires, omega (arith, text-most a (λ i h. (c.type_inv.address i).fits) c.requires))
