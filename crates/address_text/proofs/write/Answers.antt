-- Nothing where there is no room, else the text: there is room for the most bytes of the family, or for those of the text.
use Prim.Native.Nat.{◌≤◌}
use native.Mathlib.Omega.{arith}
use lib.ListN.{length}
use Rattle.octets.specs.Number.{Bytes}
use Rattle.output.proofs.Writing.{written_over, all-put, nothing_put}
use Rattle.ip_text.specs.Text.{text_of}
use Rattle.ip_text.proofs.Lengths.{text-most, text_most4, text_most16}
use Rattle.address_text.proofs.Answers.{told}
use Rattle.address_text.proofs.write.Goals as goal
use Rattle.address_text.proofs.write.Goals.{Joined-address-eq4, Joined-text-most, else-address-eq4, else-text-most, then-address-eq4, then-text-most+else-text-size}

bytes : (c : Joined-address-eq4) → Bytes c.args.address.now
bytes c i h = (c.type_inv.address i).fits

most : (c : Joined-text-most) → length (text_of c.args.address.now) ≤ c.if-address-eq4.most
most c =
    let b : Bytes c.args.address.now = λ i h. (c.type_inv.address i).fits in
    (elim c.if-address-eq4.branch [ then-address-eq4 w ↦ omega (arith, text_most4 c.args.address.now b w.if-address-eq4.true, w.most-is) | else-address-eq4 w ↦ omega (arith, text_most16 c.args.address.now b (c.requires.1 w.if-address-eq4.false), w.most-is) ])

room : (c : Joined-text-most) → length (text_of c.args.address.now) ≤ length c.args.text.now
room c = (elim c.if-text-most.branch [ then-text-most+else-text-size w ↦ omega (arith, w.size_of-size.ensures, w.if-text-size.false) | else-text-most w ↦ omega (arith, most c, w.if-text-most.false) ])

pub overflow_cast-result : goal.overflow_cast-result
overflow_cast-result c =
    omega (arith, c.size_of-size.ensures, text-most c.args.address.now (bytes (goal.at.overflow_cast-result c).Joined-address-eq4) c.requires)

pub returns-then-text-size : goal.returns-then-text-size
returns-then-text-size c =
    let t = told c.args.address.now c.args.text.now c.requires (nothing_put (text_of c.args.address.now) c.args.text.now c.size_of-size.ensures (omega (arith, c.size_of-size.ensures))) in
    record { numbers = t.0; text = t.1 }

pub put_text-requires : goal.put_text-requires
put_text-requires c =
    (c.requires, room (goal.at.put_text-requires c).Joined-text-most)

pub overflow_cast-result-2 : goal.overflow_cast-result-2
overflow_cast-result-2 c =
    omega (arith, c.put_text.ensures.size, text-most c.args.address.now (bytes (goal.at.overflow_cast-result-2 c).Joined-address-eq4) c.requires)

pub returns : goal.returns
returns c =
    let w = c.put_text.ensures in
    let t = told c.args.address.now c.args.text.now c.requires (all-put (text_of c.args.address.now) c.args.text.now w.size (room (goal.at.returns c).Joined-text-most) (written_over w)) in
    record { numbers = t.0; text = t.1 }
