-- S12.2, S2.9: a number written in digits to a base from 2 to 16, without leading zeros, however large; numbers with a separator between them.
use Rattle.std.specs.Prelude.{ℕ, zero, suc, ◌+◌, ◌-◌, ◌/◌, ◌%◌, cond, ◌≡◌, refl, List, [], ◌∷◌, ◌++◌, map, ltb}
use Prim.Native.Char.{code}
use Rattle.octets.specs.Ascii.{ascii}

-- the digit of a value, in lower case
unfoldable pub digit_of : ℕ → ℕ
digit_of d = cond (ltb d 10) (code "0" + d) (code "a" + (d - 10))

-- the digits of n before those that are written already, at most so many; a `let` is computed only where it is used
unfoldable pub digits_before : ℕ → ℕ → ℕ → List ℕ → List ℕ
digits_before base zero n written = written
digits_before base (suc most) n written =
    let more = digits_before base most (n / base) (digit_of (n % base) ∷ written) in
    cond (ltb n base) (digit_of n ∷ written) more

unfoldable pub numeral_text : ℕ → ℕ → List ℕ
numeral_text base n = digits_before base (suc n) n []

abbrev pub decimal_text : ℕ → List ℕ
decimal_text = numeral_text 10

abbrev pub hex_text : ℕ → List ℕ
hex_text = numeral_text 16

-- numbers to a base, each after a separator
unfoldable pub following : (sep base : ℕ) → List ℕ → List ℕ
following sep base [] = []
following sep base (n ∷ ns) = (sep ∷ numeral_text base n) ++ following sep base ns

-- numbers to a base, with a separator between each two
unfoldable pub spelled : (sep base : ℕ) → List ℕ → List ℕ
spelled sep base [] = []
spelled sep base (n ∷ ns) = numeral_text base n ++ following sep base ns

-- where the number of digits changes, and the number of all IPv6 addresses
decimals :
    map decimal_text (0 ∷ 9 ∷ 10 ∷ 99 ∷ 100 ∷ 4294967296 ∷ 340282366920938463463374607431768211456 ∷ [])
    ≡ map ascii ("0" ∷ "9" ∷ "10" ∷ "99" ∷ "100" ∷ "4294967296" ∷ "340282366920938463463374607431768211456" ∷ [])
unfolding ascii digit_of digits_before numeral_text
decimals = refl

hexes : map hex_text (0 ∷ 9 ∷ 10 ∷ 15 ∷ 16 ∷ 255 ∷ 256 ∷ 43981 ∷ 65535 ∷ []) ≡ map ascii ("0" ∷ "9" ∷ "a" ∷ "f" ∷ "10" ∷ "ff" ∷ "100" ∷ "abcd" ∷ "ffff" ∷ [])
unfolding ascii digit_of digits_before numeral_text
hexes = refl
