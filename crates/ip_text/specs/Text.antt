-- S2.9: the text of an address: IPv4 as four decimals, IPv6 in the form of RFC 5952.
use Rattle.std.specs.Prelude.{ℕ, ◌+◌, List, ◌++◌, Bool, cond, ◌&&◌, eqb, leb, length, get_or, take, drop}
use Prim.Native.Char.{code}
use Rattle.octets.specs.Ascii.{ascii}
use Rattle.numeral.specs.Digits.{spelled}
use Rattle.ip_groups.specs.Groups.{groups_of, zeros_first, longest_run, run_at}

-- "IPv4 is four decimals": separated by dots
abbrev pub dotted : List ℕ → List ℕ
dotted = spelled (code ".") 10

-- groups of hex digits, in lower case and without leading zeros, separated by colons
abbrev pub colons : List ℕ → List ℕ
colons = spelled (code ":") 16

-- "longest run of at least two zero groups shortened, the first of equal ones"
unfoldable pub shortened : List ℕ → List ℕ
shortened gs =
    let n : ℕ = longest_run gs in
    let at : ℕ = run_at n gs in
    let short : List ℕ = colons (take at gs) ++ (ascii "::" ++ colons (drop (at + n) gs)) in
    cond (leb 2 n) short (colons gs)

-- in ::ffff:0:0/96: five zero groups, then ffff
unfoldable pub is_mapped : List ℕ → Bool
is_mapped gs = eqb (zeros_first gs) 5 && eqb (get_or gs 5 0) 65535

-- an address of sixteen bytes: "a dotted tail for ::ffff:0:0/96 and no other"
unfoldable pub ipv6_text : List ℕ → List ℕ
ipv6_text a =
    let mapped : List ℕ = ascii "::ffff:" ++ dotted (drop 12 a) in
    let plain : List ℕ = shortened (groups_of a) in
    cond (is_mapped (groups_of a)) mapped plain

-- an address of four bytes or sixteen
unfoldable pub text_of : List ℕ → List ℕ
text_of a = cond (eqb (length a) 4) (dotted a) (ipv6_text a)
