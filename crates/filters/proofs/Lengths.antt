-- How long a filter can be.
use Prim.Native.Nat.{ℕ, ◌+◌, ◌-◌, ◌*◌, ◌^◌, ◌≤◌, ◌<◌}
use mathlib.Core.Path.{◌≡◌}
use mathlib.Core.List.{List, [], ◌∷◌, ◌++◌}
use native.Mathlib.Omega.{arith}
use lib.ListN.{length, length-append}
use Rattle.octets.specs.Positions.{Wide}
use Rattle.numeral.specs.Digits.{decimal_text}
use Rattle.numeral.proofs.Digits.{text-few}
use Rattle.cidr.specs.Prefixes.{Prefix}
use Rattle.prefix_bytes.specs.Entry.{big_endian}
use Rattle.prefix_bytes.proofs.Bytes.{length-bytes, bytes_small}
use Rattle.prefix_bytes.proofs.Widths.{at-most-sixteen}
use Rattle.ip_text.specs.Text.{text_of}
use Rattle.ip_text.proofs.Lengths.{text-most}
use Rattle.formats.specs.Template.{Template, end_of}
use Rattle.formats.proofs.Lengths.{Short, end-most}
use Rattle.filters.specs.Filter.{prefix_text, rows_of}

module _ (l : Template) (name : List ℕ) (h : Short l name) where
  module _ (width : ℕ) (w : Wide width) where
    -- an address, the slash and a length of at most three digits
    prefix-most : (p : Prefix) → length (prefix_text l.slash width p) ≤ 44
    unfolding prefix_text
    prefix-most p =
        let address : List ℕ = big_endian width p.first in
        let n : ℕ = 8 * width - p.free in
        let e : length address ≡ width = length-bytes width p.first in
        let few : n < 10 ^ 3 = omega (arith, at-most-sixteen w) in
        omega (arith, length-append (text_of address ++ l.slash) (decimal_text n), length-append (text_of address) l.slash, text-most address (bytes_small width p.first) (rw e w), text-few 10 (omega arith) n 2 few, h.slash)

    pub rows-most : (ps : List Prefix) → length (rows_of l width ps) ≤ length ps * (89 + length name)
    unfolding rows_of
    rows-most [] = omega arith
    rows-most (p ∷ ps) =
        let row : List ℕ = l.before ++ prefix_text l.slash width p in
        omega (arith, length-append (row ++ end_of l (length ps)) (rows_of l width ps), length-append row (end_of l (length ps)), length-append l.before (prefix_text l.slash width p), prefix-most p, end-most l name h (length ps), h.before, rows-most ps)
