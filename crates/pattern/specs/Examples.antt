-- Host-name patterns, with names that match them and that do not.
use Prim.Native.String.{String}
use Rattle.std.specs.Prelude.{◌≡◌, refl, List, [], ◌∷◌, map, Bool, true, false}
use Rattle.octets.specs.Ascii.{ascii}
use Rattle.registry.specs.declared.Text.TheVariants.{Host}
use Rattle.pattern.specs.Pattern.{pattern_of, matches_read}
use Rattle.pattern.specs.Computing.{computing}

-- A host-name pattern, a name, and whether it matches.
pub record Case : Type 0 where
  pub pattern : String
  pub name : String
  pub matches : Bool

abbrev pub matching : String → String → Bool → Case
matching pattern name b = record { pattern = pattern; name = name; matches = b }

abbrev pub is_match : String → String → Bool
is_match pattern name = matches_read true (pattern_of Host (ascii pattern)) (ascii pattern) (ascii name)

abbrev pub cases : List Case
cases =
    matching "exam*.com" "example.com" true ∷ matching "exam*.com" "exam.com" true ∷ matching "exam*.com" "exam.ple.com" false
    ∷ matching "exam*" "exam.ple.com" true ∷ matching "EXAM*.com" "example.com" true ∷ matching "exam.com" "exam.com" true
    ∷ matching "exam.com" "example.com" false ∷ matching "a*.b" "a.b" true ∷ matching "ab*.b" "a.b" false
    ∷ matching "exam*." "exam.com" false ∷ matching "*exam" "exam" false ∷ []

pub cases_hold : map (λ (c : Case). is_match c.pattern c.name) cases ≡ map (λ (c : Case). c.matches) cases
unfolding computing
cases_hold = refl
