-- The sum of sixteen bytes, each by its place, is their number: two of eight bytes.
use mathlib.Core.Path.{◌≡◌}
use native.Mathlib.Omega.{arith}
use lib.ListN.{length}
use Rattle.octets.proofs.Digits.{cut, eight_bytes, number-whole}
use borrow.Author.Rules.{rules}
use Rattle.address.proofs.Address.number.Goals as goal

pub returns : goal.returns
returns c =
    let s = c.args.self.bytes in
    let l : length s ≡ 16 = search rules in
    let high = eight_bytes s 0 (omega arith) in
    let low = eight_bytes s 8 (omega arith) in
    omega (arith, c.from_be_bytes.ensures, number-whole s 16 l, cut s 0 8 8 (omega arith), high, low)
