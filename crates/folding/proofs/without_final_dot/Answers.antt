-- `without_final_dot`: by whether the last byte is a dot; an empty text has none.
use mathlib.Core.Path.{◌≡◌, ap, ◌∙◌}
use mathlib.Core.List.{List}
use Prim.Native.Nat.{ℕ}
use denote.Bor.{Bor}
use Rattle.std.specs.Prelude.{Option, Some, None}
use Rattle.std.specs.Option.{unwrap_or}
use Rattle.texts.specs.Host.{without_final_dot}
use Rattle.folding.proofs.Fold.{Stripped, stripped-dot, stripped-none}
use Rattle.folding.proofs.without_final_dot.Goals as goal

by_answer : (s : Bor (List ℕ)) (o : Option (Bor (List ℕ))) → Stripped s.now o → (unwrap_or o s).now ≡ without_final_dot s.now
by_answer s None h = stripped-none s.now h
by_answer s (Some x) h = h.1 ∙ stripped-dot s.now h.0

pub returns : goal.returns
returns c = ap (λ (b : Bor (List ℕ)). b.now) c.unwrap_or.ensures ∙ by_answer c.args.s c.strip_suffix.result c.strip_suffix.ensures.cases
