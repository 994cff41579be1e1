-- Reading a line gives the reply's numbers back, so that replies with the same line have the same numbers.
use Prim.Native.Nat.{ℕ, ◌-◌}
use mathlib.Core.Path.{◌≡◌, sym, ap, ◌∙◌}
use mathlib.Core.List.{List, [], ◌∷◌, ◌++◌, map}
use native.Mathlib.Omega.{arith}
use lib.ListN.{length, length-append}
use lib.Seq.{take_at}
use Rattle.octets.specs.Split.{split}
use Rattle.numeral.specs.Numeral.{digit_value, digits_from}
use Rattle.numeral.proofs.Spelled.{split-spelled, values_read}
use Rattle.answers.specs.Reply.{Reply, line}
use Rattle.line_text.specs.Line.{spaced, line_text, numbers_in}

pub line_read : (r : Reply) → numbers_in (line_text r) ≡ line r
unfolding numbers_in line_text line digit_value
line_read r =
    let rest : List ℕ = r.reason ∷ r.kind ∷ r.count ∷ r.records in
    let text : List ℕ = spaced (r.status ∷ rest) in
    let before = take_at text (10 ∷ []) (length (text ++ (10 ∷ [])) - 1) (omega (arith, length-append text (10 ∷ []))) in
    ap (λ (t : List ℕ). map (digits_from 10 0) (split 32 t)) before
    ∙ ap (map (digits_from 10 0)) (split-spelled 32 10 (omega arith) (omega arith) (omega arith) r.status rest) ∙ values_read 32 10 (omega arith) (omega arith) (r.status ∷ rest)

pub same_numbers : (r s : Reply) → line_text r ≡ line_text s → line r ≡ line s
same_numbers r s e = sym (line_read r) ∙ ap numbers_in e ∙ line_read s
