-- S8.1, S8.2: numbers written in digits: the value of a digit, and what a text of digits stands for.
use Rattle.std.specs.Prelude.{ℕ, ◌+◌, ◌-◌, ◌*◌, List, [], ◌∷◌, Option, Some, None, Bool, true, false, cond, ◌&&◌, length, ltb, leb, eqb}
use Prim.Native.Char.{code}
use Rattle.octets.specs.Lists.{within}

-- the value of the digit c, 'A' and 'a' being 10; 16 where c is none
unfoldable pub digit_value : ℕ → ℕ
digit_value c =
    cond (within (code "0") (code "9") c) (c - code "0")
    (cond (within (code "A") (code "F") c) (c - code "A" + 10)
    (cond (within (code "a") (code "f") c) (c - code "a" + 10) 16))

-- every byte is a digit of the base
unfoldable pub are_digits : ℕ → List ℕ → Bool
are_digits base [] = true
are_digits base (c ∷ s) = ltb (digit_value c) base && are_digits base s

-- the number that the digits s continue, v being the number before them
unfoldable pub digits_from : ℕ → ℕ → List ℕ → ℕ
digits_from base v [] = v
digits_from base v (c ∷ s) = digits_from base (v * base + digit_value c) s

-- the number that the digits s continue, v being the number before them, if it is at most max
unfoldable pub numeral_from : ℕ → ℕ → ℕ → List ℕ → Option ℕ
numeral_from base max v s = cond (are_digits base s && leb (digits_from base v s) max) (Some (digits_from base v s)) None

-- one or more digits of the base, whose value is at most max
unfoldable pub numeral : ℕ → ℕ → List ℕ → Option ℕ
numeral base max [] = None
numeral base max (c ∷ s) = numeral_from base max 0 (c ∷ s)

-- a '0' with something after it
unfoldable pub leading_zero : List ℕ → Bool
leading_zero [] = false
leading_zero (c ∷ []) = false
leading_zero (c ∷ d ∷ s) = eqb c (code "0")

-- a decimal number from 0 to max, without leading zeros
unfoldable pub decimal : ℕ → List ℕ → Option ℕ
decimal max s = cond (leading_zero s) None (numeral 10 max s)

-- h16 of RFC 3986: one to four hex digits
unfoldable pub h16 : List ℕ → Option ℕ
h16 s = cond (leb (length s) 4) (numeral 16 65535 s) None
