-- What the chain answers, by the test of each byte.
use mathlib.Core.Path.{◌≡◌, refl, ap, ◌∙◌}
use mathlib.Core.Bool.{Bool, ◌&&◌}
use mathlib.Core.List.{List, [], ◌∷◌}
use Prim.Native.Nat.{ℕ}
use Rattle.std.proofs.Common.{rules, tests}
use Rattle.std.proofs.lemmas.Iterator.{YieldsList-from_slice}
use Rattle.std.proofs.lemmas.Iterator.Search.{all_from_yields_List}
use Rattle.std.specs.List.{list_all}
use Rattle.octets.specs.Lists.{every}
use Rattle.pattern.specs.Pattern.{pattern_byte}
use Rattle.pattern.proofs.are_pattern_bytes.Goals as goal

all-every : (p : ℕ → Bool) (s : List ℕ) → list_all p s ≡ every p s
unfolding every
all-every p [] = refl
all-every p (c ∷ s) = ap (λ (b : Bool). p c && b) (all-every p s)

pub returns : goal.returns
returns c =
    let test = pattern_byte c.args.text in
    all_from_yields_List test _ _ _ c.all.ensures.ran (YieldsList-from_slice c.args.s.now cc) (λ x b q k. search (rules, tests))
    ∙ all-every test c.args.s.now
