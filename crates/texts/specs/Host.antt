-- Host names (S4.4; in paths S8.4): one or more labels of 1 to 63 letters, digits or hyphens, no hyphen at a label's ends, joined by dots, at most 253 bytes.
use Rattle.std.specs.Prelude.{ℕ, ◌+◌, ◌-◌, List, map, Bool, cond, not, ◌&&◌, ◌||◌, eqb, leb, length, get_or, take}
use Prim.Native.Char.{code}
use Rattle.registry.specs.Limits.{most_host}
use Rattle.octets.specs.Lists.{within, every}
use Rattle.octets.specs.Ascii.{is_alphanumeric}
use Rattle.octets.specs.Split.{split}

-- a letter, a digit or a hyphen
unfoldable pub is_label_byte : ℕ → Bool
is_label_byte c = is_alphanumeric c || eqb c (code "-")

-- 1 to 63 such bytes, with no hyphen at either end
unfoldable pub is_label : List ℕ → Bool
is_label s =
    within 1 63 (length s)
    && not (eqb (get_or s 0 0) (code "-")) && not (eqb (get_or s (length s - 1) 0) (code "-"))
    && every is_label_byte s

-- labels joined by dots, at most 253 bytes
unfoldable pub is_host_name : List ℕ → Bool
is_host_name s = leb (length s) most_host && every is_label (split (code ".") s)

-- a capital as the small letter
unfoldable pub fold : ℕ → ℕ
fold c = cond (within (code "A") (code "Z") c) (c - code "A" + code "a") c

-- one final dot dropped
unfoldable pub without_final_dot : List ℕ → List ℕ
without_final_dot s = cond (eqb (get_or s (length s - 1) 0) (code ".")) (take (length s - 1) s) s

-- D of a path: capitals folded, one final dot dropped
unfoldable pub host_of : List ℕ → List ℕ
host_of s = map fold (without_final_dot s)
