-- Lists, Boolean tests on their elements, and answers that may be missing.
use Rattle.std.specs.Prelude.{ℕ, Bool, true, false, cond, ◌&&◌, ◌||◌, leb, eqb, Option, None, Some}
use mathlib.Core.List.{List, [], ◌∷◌, Memᴰ}

-- low ≤ n ≤ high
abbrev pub within : ℕ → ℕ → ℕ → Bool
within low high n = leb low n && leb n high

module _ {A : Type 0} where
  infix 40 ◌∈◌
  abbrev pub ◌∈◌ : A → List A → Type 0
  x ∈ xs = Memᴰ x xs

  abbrev pub keep : Bool → A → List A → List A
  keep true x xs = x ∷ xs
  keep false x xs = xs

  -- the elements that pass the test, in the list's order
  abbrev pub filter : (A → Bool) → List A → List A
  filter p [] = []
  filter p (x ∷ xs) = keep (p x) x (filter p xs)

  -- some element passes the test
  abbrev pub any : (A → Bool) → List A → Bool
  any p [] = false
  any p (x ∷ xs) = p x || any p xs

  -- every element passes the test
  unfoldable pub every : (A → Bool) → List A → Bool
  every p [] = true
  every p (x ∷ xs) = p x && every p xs

-- n occurs
unfoldable pub contains : ℕ → List ℕ → Bool
contains n [] = false
contains n (m ∷ s) = eqb m n || contains n s

-- An answer of the code: the value where ok says that there is one.
unfoldable pub found : {A : Type 0} → Bool → A → Option A
found ok a = cond ok (Some a) None
