-- Laws of numerals: the next byte is a digit, is none, or there is none; a number above max stays above it; a number that was read is at most max; a text with a byte that is no digit is no number.
use Prim.Native.Nat.{ℕ, ◌+◌, ◌*◌, ◌≤◌, ◌<◌, ◌^◌}
use Prim.Native.Char.{code}
use mathlib.Core.Path.{◌≡◌, refl, sym, ◌∙◌}
use mathlib.Core.List.{List, [], ◌∷◌}
use mathlib.Core.Bool.{Bool, true, false, cond, false≢true, ◌&&◌, ◌||◌}
use native.Mathlib.Omega.{arith}
use native.Mathlib.Nat.{mul-le-mul_left}
use native.Mathlib.Numerals.{add-one}
use lib.Dec.{leb, ltb, eqb}
use lib.ListN.{length, get_or, drop, drop_of_length-le}
use lib.Seq.{drop-cons}
use Rattle.std.specs.Prelude.{Option, Some, None}
use Rattle.std.specs.Char.{digit_value as std_value}
use Rattle.std.proofs.lemmas.Bool.Decides.{nat_tests}
use borrow.Author.Tests.{le-leb, lt-leb, lt-ltb, le-ltb, leb-true, eqb-true}
use Rattle.octets.specs.Lists.{contains}
use Rattle.octets.proofs.Connectives.{and_right, and-false}
use Rattle.numeral.specs.Numeral.{digit_value, are_digits, digits_from, numeral_from, numeral, leading_zero, decimal, h16}

-- ---- the digits of a base up to 16 are those of std

pub same_digit : (base c : ℕ) → base ≤ 16 → std_value c < base → digit_value c ≡ std_value c
unfolding digit_value
same_digit base c h k = grind (arith, nat_tests)

pub other_byte : (base c : ℕ) → base ≤ 16 → (std_value c < base → ⊥) → base ≤ digit_value c
unfolding digit_value
other_byte base c h k = grind (arith, nat_tests)

-- ---- a number that is read

-- one digit more
pub value-fits : (base max v d : ℕ) → base ≤ 16 → max < 2 ^ 32 → v ≤ max → d < 256 → v * base + d < 2 ^ 37
value-fits base max v d hb hm hv hd = omega (arith, mul-le-mul_left v hb)

pub value_grows : (base v : ℕ) (s : List ℕ) → 1 ≤ base → v ≤ digits_from base v s
unfolding digits_from
value_grows base v [] h = omega arith
value_grows base v (c ∷ s) h =
    omega (arith, value_grows base (v * base + digit_value c) s h, mul-le-mul_left v h)

module _ (base max v : ℕ) (s : List ℕ) where
  -- a number above max
  pub above-max : 1 ≤ base → max < v → numeral_from base max v s ≡ None
  unfolding numeral_from
  above-max hb h =
      let g : max < digits_from base v s = omega (arith, value_grows base v s hb) in
      simp (lt-leb _ _ g, and-false)

  module _ (i : ℕ) where
    -- the next byte is a digit
    pub next_digit : i < length s → digit_value (get_or s i 0) < base
        → numeral_from base max v (drop i s) ≡ numeral_from base max (v * base + digit_value (get_or s i 0)) (drop (i + 1) s)
    unfolding numeral_from are_digits digits_from
    next_digit h d = rw (add-one, drop-cons s i 0, lt-ltb _ _ d)

    -- the next byte is none
    pub no_digit : i < length s → base ≤ digit_value (get_or s i 0) → numeral_from base max v (drop i s) ≡ None
    unfolding numeral_from are_digits
    no_digit h d = rw (drop-cons s i 0, le-ltb _ _ d)

module _ (base max : ℕ) where
  pub numeral-empty : (s : List ℕ) → length s ≡ 0 → numeral base max s ≡ None
  unfolding numeral
  numeral-empty [] e = refl
  numeral-empty (c ∷ s) e = let z : ⊥ = omega arith in absurd z

  pub numeral-start : (s : List ℕ) → (length s ≡ 0 → ⊥) → numeral_from base max 0 s ≡ numeral base max s
  unfolding numeral
  numeral-start [] h = absurd (h refl)
  numeral-start (c ∷ s) h = refl

  -- the end, or a number that was read to its end
  pub numeral-end : (v i : ℕ) (s : List ℕ) → length s ≤ i → v ≤ max → numeral_from base max v (drop i s) ≡ Some v
  unfolding numeral_from are_digits digits_from
  numeral-end v i s h k = rw (drop_of_length-le s h, le-leb _ _ k)

pub zero-short : (s : List ℕ) → length s < 2 → leading_zero s ≡ false
unfolding leading_zero
zero-short [] h = refl
zero-short (c ∷ []) h = refl
zero-short (c ∷ d ∷ s) h = let z : ⊥ = omega arith in absurd z

pub zero-first : (s : List ℕ) → 2 ≤ length s → leading_zero s ≡ eqb (get_or s 0 0) (code "0")
unfolding leading_zero
zero-first [] h = let z : ⊥ = omega arith in absurd z
zero-first (c ∷ []) h = let z : ⊥ = omega arith in absurd z
zero-first (c ∷ d ∷ s) h = refl

cond_value : (b : Bool) (x v : ℕ) → cond b (Some x) None ≡ Some v → (b ≡ true) × (x ≡ v)
cond_value true x v e = (refl, cc)
cond_value false x v e = let z : ◌≡◌ {A = ℕ} 0 1 = cc in let a : ⊥ = omega arith in absurd a

-- a number that was read is at most max
pub numeral_le : (base max : ℕ) (s : List ℕ) (v : ℕ) → numeral base max s ≡ Some v → v ≤ max
unfolding numeral numeral_from
numeral_le base max [] v e = absurd (false≢true (cond_value false 0 v e).0)
numeral_le base max (c ∷ s) v e =
    let d : Bool = are_digits base (c ∷ s) in
    let x : ℕ = digits_from base 0 (c ∷ s) in
    let r = cond_value (d && leb x max) x v e in
    omega (arith, r.1, leb-true x max (and_right d (leb x max) r.0))

well_formed_lem : (b : Bool) (n : Option ℕ) (v : ℕ) → cond b n None ≡ Some v → n ≡ Some v
well_formed_lem true n v e = e
well_formed_lem false n v e = cc

not-malformed : (b : Bool) (n : Option ℕ) (v : ℕ) → cond b None n ≡ Some v → n ≡ Some v
not-malformed true n v e = cc
not-malformed false n v e = e

pub decimal_le : (max : ℕ) (s : List ℕ) (v : ℕ) → decimal max s ≡ Some v → v ≤ max
unfolding decimal
decimal_le max s v e = numeral_le 10 max s v (not-malformed (leading_zero s) (numeral 10 max s) v e)

pub h16_le : (s : List ℕ) (v : ℕ) → h16 s ≡ Some v → v ≤ 65535
unfolding h16
h16_le s v e = numeral_le 16 65535 s v (well_formed_lem (leb (length s) 4) (numeral 16 65535 s) v e)

-- a text that holds a byte x which is no digit of the base
module _ (base x : ℕ) (none : base ≤ digit_value x) where
  digits-not : (s : List ℕ) → contains x s ≡ true → are_digits base s ≡ false
  unfolding contains are_digits
  digits-not [] e = absurd (false≢true e)
  digits-not (c ∷ s) e = by_first (eqb c x) refl e (digits-not s)
    where
      by_first : (b : Bool) → eqb c x ≡ b → b || contains x s ≡ true → (contains x s ≡ true → are_digits base s ≡ false)
          → ltb (digit_value c) base && are_digits base s ≡ false
      by_first true q h f = rw (eqb-true c x q, le-ltb (digit_value x) base none)
      by_first false q h f = rw (f h) (and-false (ltb (digit_value c) base))

  -- digits hold no such byte
  pub digits_lack : (s : List ℕ) → are_digits base s ≡ true → contains x s ≡ false
  digits_lack s e = by-test (contains x s) refl
    where
      by-test : (b : Bool) → contains x s ≡ b → b ≡ false
      by-test true q = absurd (false≢true (sym (digits-not s q) ∙ e))
      by-test false q = refl

  pub numeral-not : (max : ℕ) (s : List ℕ) → contains x s ≡ true → numeral base max s ≡ None
  unfolding numeral numeral_from
  numeral-not max [] e = refl
  numeral-not max (c ∷ s) e = rw (digits-not (c ∷ s) e)

either_way : (b : Bool) → cond {A = Option ℕ} b None None ≡ None
either_way true = refl
either_way false = refl

module _ (x : ℕ) (s : List ℕ) (has : contains x s ≡ true) where
  pub decimal-not : (max : ℕ) → 10 ≤ digit_value x → decimal max s ≡ None
  unfolding decimal
  decimal-not max h = rw (numeral-not 10 x h max s has) (either_way (leading_zero s))

  pub h16-not : 16 ≤ digit_value x → h16 s ≡ None
  unfolding h16
  h16-not h = rw (numeral-not 16 x h 65535 s has) (either_way (leb (length s) 4))
