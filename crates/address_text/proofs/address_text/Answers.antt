-- By the length of the address.
use native.Mathlib.Omega.{arith}
use Rattle.address_text.proofs.Answers.{no_address}
use Rattle.address_text.proofs.address_text.Goals as goal

pub returns-in_default : goal.returns-in_default
returns-in_default c =
    let a = c.args in
    let t = no_address a.address.now a.text.now (λ e. omega arith) (λ e. omega arith) in
    record { numbers = t.0; text = t.1 }
