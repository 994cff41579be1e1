-- What a handle, a name and a host name of the registry may hold (S4.3).
use Rattle.std.specs.Prelude.{Bool, not, ◌&&◌, List, ℕ, eqb, length}
use Prim.Native.Char.{code}
use Rattle.registry.specs.Limits.{most_text}
use Rattle.octets.specs.Lists.{within, every}
use Rattle.texts.specs.Host.{is_host_name}

-- from low to 7E hex, no asterisk
abbrev pub text_byte : ℕ → ℕ → Bool
text_byte low b = within low 0x7E b && not (eqb b (code "*"))

-- 1 to 64 such bytes
unfoldable pub good_text : ℕ → List ℕ → Bool
good_text low s = within 1 most_text (length s) && every (text_byte low) s

-- a host name in lower case: without capitals
unfoldable pub good_host : List ℕ → Bool
good_host s = is_host_name s && every (λ c. not (within (code "A") (code "Z") c)) s
