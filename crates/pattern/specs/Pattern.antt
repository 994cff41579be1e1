-- Patterns: a text with at most one asterisk, which stands for zero or more bytes (S9).
use Rattle.std.specs.Prelude.{ℕ, ◌+◌, ◌-◌, List, [], ◌∷◌, Bool, true, false, cond, not, ◌&&◌, ◌||◌, eqb, leb, ltb, length, get_or, take, drop, Result, Ok, Err}
use Prim.Native.Char.{code}
use Rattle.registry.specs.Limits.{most_host, most_text}
use Rattle.octets.specs.Lists.{within, every, contains}
use Rattle.octets.specs.Split.{split}
use Rattle.texts.specs.Host.{is_label_byte}
use Rattle.texts.specs.Compare.{alike}
use Rattle.registry.specs.declared.Text.{Text}
use Rattle.registry.specs.declared.Text.TheVariants.{Handle, Name, Host}
use Rattle.pattern.specs.declared.Form.{Form}
use Rattle.pattern.specs.declared.Form.TheVariants.{Exact, Asterisk}
use Rattle.pattern.specs.declared.PatternError.{PatternError}
use Rattle.pattern.specs.declared.PatternError.TheVariants.{Unsupported, Malformed}

abbrev pub is_host : Text → Bool
is_host Handle = false
is_host Name = false
is_host Host = true

-- S9.1: 1 to 64 bytes (host names 253)
abbrev pub longest : Text → ℕ
longest Handle = most_text
longest Name = most_text
longest Host = most_host

-- S9.1: the field's characters or asterisks; host-name patterns may hold letters, digits, hyphen, dot, asterisk.
unfoldable pub pattern_byte : Text → ℕ → Bool
pattern_byte Handle c = within 0x21 0x7E c
pattern_byte Name c = within 0x20 0x7E c
pattern_byte Host c = is_label_byte c || eqb c (code ".") || eqb c (code "*")

unfoldable pub is_pattern : Text → List ℕ → Bool
is_pattern text pattern = within 1 (longest text) (length pattern) && every (pattern_byte text) pattern

-- S9.3: what may follow the asterisk: nothing, or in a host-name pattern a dot and at least one byte
unfoldable pub is_suffix : Bool → List ℕ → Bool
is_suffix host q = leb (length q) 0 || (host && leb 2 (length q) && eqb (get_or q 0 0) (code "."))

-- S9.3: the pieces of a pattern cut at its asterisks. More than one asterisk, or one that is not last, is not supported.
unfoldable pub form_of : Bool → List (List ℕ) → Result Form PatternError
form_of host [] = Err Unsupported
form_of host (p ∷ []) = Ok Exact
form_of host (p ∷ q ∷ []) = cond (is_suffix host q) (Ok (Asterisk (length p))) (Err Unsupported)
form_of host (p ∷ q ∷ r ∷ ps) = Err Unsupported

unfoldable pub pattern_of : Text → List ℕ → Result Form PatternError
pattern_of text pattern = cond (is_pattern text pattern) (form_of (is_host text) (split (code "*") pattern)) (Err Malformed)

-- S9.2: the name is prefix, then some bytes for the asterisk, then suffix; where there is a suffix, those bytes hold no dot
unfoldable pub matches : Bool → List ℕ → List ℕ → List ℕ → Bool
matches folded prefix suffix name =
    leb (length prefix + length suffix) (length name)
    && alike folded prefix (take (length prefix) name)
    && alike folded suffix (drop (length name - length suffix) name)
    && (leb (length suffix) 0 || not (contains (code ".") (take (length name - (length prefix + length suffix)) (drop (length prefix) name))))

-- S9.2: a name matches a pattern of a form. No asterisk: equality.
unfoldable pub matches_form : Bool → Form → List ℕ → List ℕ → Bool
matches_form folded Exact pattern name = alike folded pattern name
matches_form folded (Asterisk at) pattern name = ltb at (length pattern) && matches folded (take at pattern) (drop (at + 1) pattern) name

-- S9.2: a name and what was read as a pattern. A text that is no pattern, or one that is not supported, matches no name.
abbrev pub matches_read : Bool → Result Form PatternError → List ℕ → List ℕ → Bool
matches_read folded (Ok form) pattern name = matches_form folded form pattern name
matches_read folded (Err e) pattern name = false

-- S9.4: names match with ASCII case folded, handles exactly.
abbrev pub folds_case : Text → Bool
folds_case Handle = false
folds_case Name = true
folds_case Host = true
