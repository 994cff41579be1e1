-- ASCII: the byte of a character, which contracts import from here, letters and digits, and the bytes of a text.
use Rattle.std.specs.Prelude.{ℕ, Bool, ◌||◌, List, [] as []ᴸ, ◌∷◌ as ◌∷ᴸ◌}
pub use Prim.Native.Char.{code}
use Prim.Native.String.{String, [], ◌∷◌}
use Rattle.octets.specs.Lists.{within}

-- DIGIT or ALPHA
abbrev pub is_alphanumeric : ℕ → Bool
is_alphanumeric c = within (code "0") (code "9") c || within (code "A") (code "Z") c || within (code "a") (code "z") c

unfoldable pub ascii : String → List ℕ
ascii [] = []ᴸ
ascii (c ∷ s) = code c ∷ᴸ ascii s
