-- The parts of a line, and how long it can be.
use Prim.Native.Nat.{ℕ, ◌*◌, ◌^◌, ◌≤◌, ◌<◌}
use Prim.Native.Char.{code}
use mathlib.Core.Path.{◌≡◌, sym, ap, ◌∙◌}
use mathlib.Core.List.{List, [], ◌∷◌, ◌++◌, append_assoc}
use native.Mathlib.Omega.{arith}
use lib.ListN.{length}
use Rattle.octets.specs.Number.{Digits}
use Rattle.octets.proofs.Below.{digits-none, digits-cons}
use Rattle.numeral.specs.Digits.{decimal_text, spelled}
use Rattle.numeral.proofs.Spelled.{following_append, following-most, spelled-most}
use Rattle.answers.specs.declared.Answer.{Answer}
use Rattle.kinds.specs.Numbers.{kind_number}
use Rattle.answers.specs.Reasons.{reason_number}
use Rattle.answers.specs.Reply.{status_of, line}
use Rattle.answers.specs.Answered.{reply_of}
use Rattle.line_text.specs.Line.{following, spaced, line_text}

pub line_parts : (a : Answer) (records : List ℕ) → line_text (reply_of a records) ≡ spaced (line (reply_of a [])) ++ following records ++ (code "\n" ∷ [])
unfolding line_text spelled line reply_of
line_parts a records =
    let head : List ℕ = reason_number a.reason ∷ kind_number a.kind ∷ a.count ∷ [] in
    ap (λ (t : List ℕ). t ++ (code "\n" ∷ []))
    (ap (λ (t : List ℕ). decimal_text (status_of (reason_number a.reason)) ++ t) (following_append 32 10 head records) ∙ sym (append_assoc (decimal_text (status_of (reason_number a.reason))) (following head) (following records)))

-- numbers of 32 bits have at most eleven bytes each
pub records-most : (ns : List ℕ) → Digits (2 ^ 32) ns → length (following ns) ≤ 11 * length ns
records-most ns d = omega (arith, following-most 32 10 (omega arith) 9 ns (λ i h. omega (arith, d i h)))

pub head-most : (s r k n : ℕ) → s < 2 ^ 32 → r < 2 ^ 32 → k < 2 ^ 32 → n < 2 ^ 32 → length (spaced (s ∷ r ∷ k ∷ n ∷ [])) < 44
head-most s r k n a b c d =
    spelled-most 32 10 (omega arith) 9 s (r ∷ k ∷ n ∷ [])
    (digits-cons (10 ^ 10) s (r ∷ k ∷ n ∷ []) (omega arith) (digits-cons (10 ^ 10) r (k ∷ n ∷ []) (omega arith) (digits-cons (10 ^ 10) k (n ∷ []) (omega arith) (digits-cons (10 ^ 10) n [] (omega arith) (digits-none (10 ^ 10))))))
