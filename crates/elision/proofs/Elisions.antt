-- Laws of the place of "::", for a loop that has come to place i: it stands here, further on, or nowhere; it ends within the text, and a byte that is no colon stands beside it.
use Prim.Native.Nat.{ℕ, suc, ◌+◌, ◌≤◌, ◌<◌}
use Prim.Native.Char.{code}
use mathlib.Core.Path.{◌≡◌, refl, ◌∙◌}
use mathlib.Core.List.{List, [], ◌∷◌}
use mathlib.Core.Bool.{Bool, true, false, cond, ◌&&◌, ◌||◌, false≢true}
use native.Mathlib.Omega.{arith}
use native.Mathlib.Numerals.{add-one}
use lib.Dec.{eqb}
use Rattle.std.specs.List.{starts_with}
use Rattle.std.proofs.lemmas.Bool.Decides.{nat_tests}
use lib.ListN.{length, take, drop}
use lib.Seq.{drop-cons}
use borrow.Author.Tests.{eqb-true, ne_eqb}
use Rattle.octets.specs.Lists.{contains}
use Rattle.octets.proofs.Connectives.{and_left, and_right, and-false}
use Rattle.elision.specs.Elision.{elision_first, elision}

elision-long : (s : List ℕ) → elision_first s ≡ true → 2 ≤ length s
unfolding elision_first
elision-long [] e = absurd (false≢true e)
elision-long (c ∷ []) e = absurd (false≢true e)
elision-long (c ∷ d ∷ s) e = omega arith

same-tests : (c d : ℕ) → (eqb 58 c && (eqb 58 d && true)) ≡ (eqb c 58 && eqb d 58)
same-tests c d = grind (arith, nat_tests)

-- a text that starts with "::"
pub starts-first : (s : List ℕ) (r : Bool) → r ≡ starts_with (λ a b. eqb a b) s (code ":" ∷ code ":" ∷ []) → r ≡ elision_first s
unfolding elision_first
starts-first [] r e = e
starts-first (c ∷ []) r e = e ∙ and-false (eqb (code ":") c)
starts-first (c ∷ d ∷ s) r e = e ∙ same-tests c d

module _ (s : List ℕ) (i : ℕ) where
  pub elision-here : i < length s → elision_first (drop i s) ≡ true → elision s ≡ i + elision (drop i s) → (elision s < length s) × (i ≡ elision s)
  unfolding elision
  elision-here h e q =
      let z : elision (drop i s) ≡ 0 = rw (drop-cons s i 0 h, rw (drop-cons s i 0 h) at e) in
      (omega arith, omega arith)

  pub elision_on : i < length s → elision_first (drop i s) ≡ false → elision s ≡ i + elision (drop i s) → elision s ≡ i + 1 + elision (drop (i + 1) s)
  unfolding elision
  elision_on h e q =
      let z : elision (drop i s) ≡ suc (elision (drop (i + 1) s)) = rw (add-one, drop-cons s i 0 h, rw (drop-cons s i 0 h) at e) in
      omega arith

  pub elision-end : length s ≤ i → elision s ≡ i + elision (drop i s) → elision s < length s → ⊥
  elision-end h q l = omega arith

room-step : (b : Bool) (n k : ℕ) → (b ≡ true → 2 ≤ suc n) → (k < n → k + 2 ≤ n) → cond b 0 (suc k) < suc n → cond b 0 (suc k) + 2 ≤ suc n
room-step true n k f g h = omega (arith, f refl)
room-step false n k f g h = omega (arith, g (omega arith))

-- "::" ends within s
pub elision-room : (s : List ℕ) → elision s < length s → elision s + 2 ≤ length s
unfolding elision
elision-room [] h = let z : ⊥ = omega arith in absurd z
elision-room (c ∷ s) h = room-step (elision_first (c ∷ s)) (length s) (elision s) (elision-long (c ∷ s)) (elision-room s) h

module _ (x : ℕ) (no_colon : x ≡ code ":" → ⊥) where
  -- the byte stands on one side of "::"
  pub beside : (s : List ℕ) → contains x s ≡ true → elision s < length s → contains x (take (elision s) s) || contains x (drop (elision s + 2) s) ≡ true
  unfolding elision elision_first contains
  beside [] e h = absurd (false≢true e)
  beside (c ∷ s) e h = by_first (elision_first (c ∷ s)) refl (elision s) (beside s) h
    where
      two : (t : List ℕ) → elision_first (c ∷ t) ≡ true → eqb c x || contains x t ≡ true → contains x (drop 1 t) ≡ true
      two [] q k = absurd (false≢true q)
      two (d ∷ t) q k =
          let h₁ = eqb-true c (code ":") (and_left (eqb c (code ":")) (eqb d (code ":")) q) in
          let h₂ = eqb-true d (code ":") (and_right (eqb c (code ":")) (eqb d (code ":")) q) in
          rw (ne_eqb c x (λ u. no_colon (omega arith)), ne_eqb d x (λ u. no_colon (omega arith))) at k

      by_first : (b : Bool) → elision_first (c ∷ s) ≡ b → (n : ℕ)
          → (contains x s ≡ true → n < length s → contains x (take n s) || contains x (drop (n + 2) s) ≡ true)
          → cond b 0 (suc n) < suc (length s)
          → contains x (take (cond b 0 (suc n)) (c ∷ s)) || contains x (drop (cond b 0 (suc n) + 2) (c ∷ s)) ≡ true
      by_first true q n f k = two s q e
      by_first false q n f k =
          let o : suc n + 2 ≡ suc (n + 2) = omega arith in
          rw o (by_byte (eqb c x) refl e)
        where
          by_byte : (d : Bool) → eqb c x ≡ d → d || contains x s ≡ true → (eqb c x || contains x (take n s)) || contains x (drop (n + 2) s) ≡ true
          by_byte true u v = rw u
          by_byte false u v = rw u (f v (omega arith))
