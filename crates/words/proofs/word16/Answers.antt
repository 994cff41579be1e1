-- Two of eight bytes, the high one shifted, are two digits to the base 2 ^ 64.
use Prim.Native.Nat.{◌^◌, ◌<◌}
use mathlib.Core.Path.{sym}
use native.Mathlib.Omega.{arith}
use lib.Pow.{shl_exact}
use Rattle.std.proofs.lemmas.Nat.{or_shifted}
use Rattle.octets.proofs.Digits.{cut}
use Rattle.words.proofs.word16.Goals as goal

pub returns : goal.returns
returns c =
    let high = c.word8-high.result in
    let low = c.word8-low.result in
    let h : high < 2 ^ 64 = omega arith in
    let l : low < 2 ^ 64 = omega arith in
    rw (c.from.ensures, c.from-2.ensures, shl_exact {a = high} 64 64 128 h (omega arith), or_shifted high 64 low l, c.word8-high.ensures, c.word8-low.ensures)
    (sym (cut c.args.s.now c.args.at 8 8 c.requires))
