-- Serves contracts and proofs. One pass over a host name in lower case: what running code does. host-scan of proofs/HostScan.antt shows that it tests the rule.
use Rattle.std.specs.Prelude.{Bool, false, true, not, cond, ◌&&◌, ◌||◌, List, [], ◌∷◌, ℕ, ◌+◌, leb, eqb}
use Prim.Native.Char.{code}
use Rattle.octets.specs.Lists.{within}

-- a letter in lower case or a digit
unfoldable pub letter_or_digit : ℕ → Bool
letter_or_digit b = within (code "a") (code "z") b || within (code "0") (code "9") b

-- the rest of a label, of which k bytes are read and whose last byte was a hyphen or not, and of the labels after it
unfoldable pub labels_from : ℕ → Bool → List ℕ → Bool
labels_from k hyphen [] = within 1 63 k && not hyphen
labels_from k hyphen (b ∷ bs) =
    cond (eqb b (code ".")) (within 1 63 k && not hyphen && labels_from 0 false bs)
    (cond (eqb b (code "-")) (leb 1 k && labels_from (k + 1) true bs)
    (letter_or_digit b && labels_from (k + 1) false bs))
