-- Laws of a text cut into pieces: what a loop that looks for the end of the first piece uses, and what there is of pieces at all.
use Prim.Native.Nat.{ℕ, suc, ◌+◌, ◌-◌, ◌≤◌, ◌<◌}
use mathlib.Core.Path.{◌≡◌, refl, ◌∙◌}
use mathlib.Core.List.{List, [], ◌∷◌, ◌++◌, append_assoc, append-nil}
use mathlib.Core.Bool.{Bool, true, false, cond, false≢true, ◌||◌}
use native.Mathlib.Omega.{arith}
use native.Mathlib.Numerals.{add-one}
use lib.Dec.{eqb}
use lib.ListN.{length, get_or, take, drop, drop_of_length-le, length-drop}
use lib.Seq.{take-suc, take_all, drop-cons}
use borrow.Author.Tests.{eqb-true}
use Rattle.octets.specs.Lists.{any, contains}
use Rattle.octets.specs.Split.{join_first, split, FirstPiece}

join_nil : (b : Bool) (a : List ℕ) (r : List (List ℕ))
    → join_first [] (cond b ([] ∷ r) (join_first a r)) ≡ cond b ([] ∷ r) (join_first a r)
unfolding join_first
join_nil true a r = refl
join_nil false a [] = refl
join_nil false a (p ∷ ps) = refl

pub split-start : (sep : ℕ) (s : List ℕ) → join_first [] (split sep s) ≡ split sep s
unfolding split join_first
split-start sep [] = refl
split-start sep (c ∷ s) = join_nil (eqb c sep) (c ∷ []) (split sep s)

join-join : (a b : List ℕ) (r : List (List ℕ)) → join_first a (join_first b r) ≡ join_first (a ++ b) r
unfolding join_first
join-join a b [] = refl
join-join a b (p ∷ ps) = rw append_assoc

-- there is a first piece
split_cons₁ : (b : Bool) (a : List ℕ) (r : List (List ℕ))
    → (p : List ℕ) × (ps : List (List ℕ)) × (cond b ([] ∷ r) (join_first a r) ≡ p ∷ ps)
unfolding join_first
split_cons₁ true a r = ([], r, refl)
split_cons₁ false a [] = (a, [], refl)
split_cons₁ false a (p ∷ ps) = (a ++ p, ps, refl)

pub split-cons : (sep : ℕ) (s : List ℕ) → (p : List ℕ) × (ps : List (List ℕ)) × (split sep s ≡ p ∷ ps)
unfolding split
split-cons sep [] = ([], [], refl)
split-cons sep (c ∷ s) = split_cons₁ (eqb c sep) (c ∷ []) (split sep s)

-- a byte of s that is not the separator stands in some piece
module _ (sep x : ℕ) (other : x ≡ sep → ⊥) where
  pub in_piece : (s : List ℕ) → contains x s ≡ true → any (contains x) (split sep s) ≡ true
  unfolding contains split join_first
  in_piece [] e = absurd (false≢true e)
  in_piece (c ∷ s) e =
      let (p, ps, q) = split-cons sep s in
      rw q (by_first (eqb c sep) refl (eqb c x) refl e p ps (λ h. rw q at (in_piece s h)))
    where
      or_assoc : (a b d : Bool) → b || d ≡ true → (a || b) || d ≡ true
      or_assoc true b d h = refl
      or_assoc false b d h = h

      by_first : (b : Bool) → eqb c sep ≡ b → (d : Bool) → eqb c x ≡ d → d || contains x s ≡ true → (p : List ℕ) (ps : List (List ℕ))
          → (contains x s ≡ true → contains x p || any (contains x) ps ≡ true) → any (contains x) (cond b ([] ∷ p ∷ ps) ((c ∷ p) ∷ ps)) ≡ true
      by_first true y true z h p ps f = absurd (other (omega (arith, eqb-true c sep y, eqb-true c x z)))
      by_first true y false z h p ps f = f h
      by_first false y true z h p ps f = rw z
      by_first false y false z h p ps f = or_assoc (eqb c x) (contains x p) (any (contains x) ps) (f h)

module _ (sep : ℕ) (s : List ℕ) (n : ℕ) where
  -- the first piece goes on past n
  pub split_on : n < length s → eqb (get_or s n 0) sep ≡ false → split sep s ≡ join_first (take n s) (split sep (drop n s))
      → split sep s ≡ join_first (take (n + 1) s) (split sep (drop (n + 1) s))
  unfolding split
  split_on h d e =
      e ∙ rw (add-one, drop-cons s n 0 h, d, take-suc s n 0 h) (join-join (take n s) (get_or s n 0 ∷ []) (split sep (drop (suc n) s)))

  -- it ends at n, at a separator
  pub split-found : n < length s → eqb (get_or s n 0) sep ≡ true → split sep s ≡ join_first (take n s) (split sep (drop n s)) → FirstPiece sep s n
  unfolding split join_first
  split-found h d e =
      record {
        fits = omega arith;
        last = λ k. let z : ⊥ = omega arith in absurd z;
        more = λ k. e ∙ rw (add-one, drop-cons s n 0 h, d, append-nil);
      }

  -- it ends at n, at the end of s
  pub split-end : n ≤ length s → length s ≤ n → split sep s ≡ join_first (take n s) (split sep (drop n s)) → FirstPiece sep s n
  unfolding split join_first
  split-end h k e =
      record {
        fits = h;
        last = λ _. e ∙ rw (drop_of_length-le s k, append-nil, take_all n s k);
        more = λ l. let z : ⊥ = omega arith in absurd z;
      }

-- what `&s[a..]` is
pub rest-is : (s : List ℕ) (a : ℕ) → take (length s - a) (drop a s) ≡ drop a s
rest-is s a = take_all (length s - a) (drop a s) (omega (arith, length-drop a s))
