-- S8.1: "::" in the text of an IPv6 address (RFC 3986, section 3.2.2): where it stands, and the bytes that it leaves out.
use Rattle.std.specs.Prelude.{ℕ, suc, ◌+◌, ◌-◌, List, [], ◌∷◌, ◌++◌, Bool, false, cond, ◌&&◌, eqb, leb, length, replicate, Option, None, Some}
use Prim.Native.Char.{code}

-- both sides of "::", which stands for one or more groups of zeros
unfoldable pub elided : Option (List ℕ) → Option (List ℕ) → Option (List ℕ)
elided (Some a) (Some b) =
    cond (leb (length a + length b) 14) (Some (a ++ replicate (16 - (length a + length b)) 0 ++ b)) None
elided (Some a) None = None
elided None o = None

-- "::" stands first
unfoldable pub elision_first : List ℕ → Bool
elision_first [] = false
elision_first (c ∷ []) = false
elision_first (c ∷ d ∷ s) = eqb c (code ":") && eqb d (code ":")

-- where the first "::" stands; the length of s where there is none
unfoldable pub elision : List ℕ → ℕ
elision [] = 0
elision (c ∷ s) = let later : ℕ = suc (elision s) in cond (elision_first (c ∷ s)) 0 later
