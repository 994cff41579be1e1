-- Numbers written in digits, once for every base: their digits and their number, so that reading one gives the number back; how many digits
-- it has; its last digit and those before.
use Prim.Native.Nat.{ℕ, zero, suc, ◌+◌, ◌*◌, ◌/◌, ◌%◌, ◌^◌, ◌≤◌, ◌<◌}
use mathlib.Core.Bool.{true, false, cond}
use mathlib.Core.Path.{◌≡◌, refl, sym, ap, ◌∙◌}
use mathlib.Core.List.{List, [], ◌∷◌, ◌++◌}
use native.Mathlib.Omega.{arith}
use native.Mathlib.Nat.{div-add-mod', mod-lt, div-lt_self, div-lt_iff_lt-mul, le-div_iff_mul-le, pow-suc, pow-zero}
use native.Mathlib.Decide.{dec_lt}
use borrow.Author.Tests.{le-leb, lt-leb, lt-ltb, le-ltb, ne_eqb}
use lib.Dec.{ltb}
use lib.ListN.{length}
use Rattle.std.specs.Prelude.{Some}
use Rattle.numeral.specs.Numeral.{digit_value, are_digits, digits_from, numeral_from, numeral, leading_zero, decimal, h16}
use Rattle.numeral.specs.Digits.{digit_of, digits_before, numeral_text, decimal_text, hex_text}
use Rattle.numeral.proofs.Laws.{numeral-start}

-- ---- one digit

pub digit_low : (d : ℕ) → d < 10 → digit_of d ≡ 48 + d
unfolding digit_of
digit_low d h = rw (lt-ltb d 10 h)

pub digit_high : (d : ℕ) → 10 ≤ d → digit_of d ≡ 87 + d
unfolding digit_of
digit_high d h = rw (le-ltb d 10 h) (omega arith)

value_low : (d : ℕ) → d < 10 → digit_value (48 + d) ≡ d
unfolding digit_value
value_low d h = rw (le-leb 48 (48 + d) (omega arith), le-leb (48 + d) 57 (omega arith)) (omega arith)

value-high : (d : ℕ) → 10 ≤ d → d < 16 → digit_value (87 + d) ≡ d
unfolding digit_value
value-high d h k =
    rw (le-leb 48 (87 + d) (omega arith), lt-leb (87 + d) 57 (omega arith), le-leb 65 (87 + d) (omega arith), lt-leb (87 + d) 70 (omega arith), le-leb 97 (87 + d) (omega arith), le-leb (87 + d) 102 (omega arith))
    (omega arith)

digit_value_lem : (d : ℕ) → d < 16 → digit_value (digit_of d) ≡ d
digit_value_lem d k = by_size (dec_lt d 10)
  where
    by_size : Dec (d < 10) → digit_value (digit_of d) ≡ d
    by_size (yes h) = ap digit_value (digit_low d h) ∙ value_low d h
    by_size (no h) = ap digit_value (digit_high d (omega arith)) ∙ value-high d (omega arith) k

-- only 0 is written '0'
digit_nonzero : (d : ℕ) → 0 < d → digit_of d ≡ 48 → ⊥
digit_nonzero d h e = by_size (dec_lt d 10)
  where
    by_size : Dec (d < 10) → ⊥
    by_size (yes k) = omega (arith, digit_low d k)
    by_size (no k) = omega (arith, digit_high d (omega arith))

no_zero : (n first : ℕ) (rest : List ℕ) → (0 < n → first ≡ 48 → ⊥) → 0 < n → leading_zero (first ∷ rest) ≡ false
unfolding leading_zero
no_zero n first [] lead h = refl
no_zero n first (d ∷ rest) lead h = ne_eqb first 48 (lead h)

-- ---- the digits to a base

module _ (base : ℕ) (low : 2 ≤ base) where
  below : (n : ℕ) → n % base < base
  below n = mod-lt n (omega arith)

  smaller : (n : ℕ) → base ≤ n → n / base < n
  smaller n h = div-lt_self (omega arith) (omega arith)

  some_left : (n : ℕ) → base ≤ n → 0 < n / base
  some_left n h = (le-div_iff_mul-le {k = base} (omega arith)).1 (omega arith)

  -- any number of digits that is large enough gives the same, before what is written already
  shifted : (most more n : ℕ) (u w : List ℕ) → n < most → n < more → digits_before base most n (u ++ w) ≡ digits_before base more n u ++ w
  unfolding digits_before
  shifted zero more n u w h k = absurd (omega arith)
  shifted (suc most) zero n u w h k = absurd (omega arith)
  shifted (suc most) (suc more) n u w h k = go (dec_lt n base) (λ p q. shifted most more (n / base) (digit_of (n % base) ∷ u) w p q)
    where
      go :
          Dec (n < base)
          → (n / base < most → n / base < more → digits_before base most (n / base) (digit_of (n % base) ∷ (u ++ w)) ≡ digits_before base more (n / base) (digit_of (n % base) ∷ u) ++ w)
          → cond (ltb n base) (digit_of n ∷ (u ++ w)) (digits_before base most (n / base) (digit_of (n % base) ∷ (u ++ w)))
          ≡ cond (ltb n base) (digit_of n ∷ u) (digits_before base more (n / base) (digit_of (n % base) ∷ u)) ++ w
      go (yes l) rest = rw (lt-ltb n base l)
      go (no l) rest =
          let s = smaller n (omega arith) in
          rw (le-ltb n base (omega arith)) (rest (omega arith) (omega arith))

  pub one_digit : (n : ℕ) → n < base → numeral_text base n ≡ digit_of n ∷ []
  unfolding numeral_text digits_before
  one_digit n h = rw (lt-ltb n base h)

  pub more-digits : (n : ℕ) → base ≤ n → numeral_text base n ≡ numeral_text base (n / base) ++ (digit_of (n % base) ∷ [])
  unfolding numeral_text digits_before
  more-digits n h =
      rw (le-ltb n base h) (shifted n (suc (n / base)) (n / base) [] (digit_of (n % base) ∷ []) (smaller n h) (omega arith))

  -- at most k digits below base ^ k
  digits-few : (most n k : ℕ) (before : List ℕ) → n < base ^ suc k → length (digits_before base most n before) ≤ suc k + length before
  unfolding digits_before
  digits-few zero n k before h = omega arith
  digits-few (suc most) n k before h = go (dec_lt n base) k h (λ j g. digits-few most (n / base) j (digit_of (n % base) ∷ before) g)
    where
      go :
          Dec (n < base) → (k : ℕ) → n < base ^ suc k
          → ((j : ℕ) → n / base < base ^ suc j → length (digits_before base most (n / base) (digit_of (n % base) ∷ before)) ≤ suc j + suc (length before))
          → length (cond (ltb n base) (digit_of n ∷ before) (digits_before base most (n / base) (digit_of (n % base) ∷ before))) ≤ suc k + length before
      go (yes l) k h rest = rw (lt-ltb n base l) (omega arith)
      go (no l) zero h rest = let g : n < 1 * base = rw (pow-suc, pow-zero) at h in absurd (l (omega arith))
      go (no l) (suc j) h rest =
          let r = rest j ((div-lt_iff_lt-mul (omega arith)).1 (rw pow-suc at h)) in
          rw (le-ltb n base (omega arith)) (omega arith)

  pub text-few : (n k : ℕ) → n < base ^ suc k → length (numeral_text base n) ≤ suc k
  unfolding numeral_text
  text-few n k h = let r = digits-few (suc n) n k [] h in omega arith

  -- ---- read again, to a base of which there are digits

  module _ (high : base ≤ 16) where
    -- s is the digits of n followed by those written before
    record Spelled (n : ℕ) (before s : List ℕ) : Type 0 where
      first : ℕ
      rest : List ℕ
      shape : s ≡ first ∷ rest
      digits : are_digits base before ≡ true → are_digits base s ≡ true
      number : digits_from base 0 s ≡ digits_from base n before
      lead : 0 < n → first ≡ 48 → ⊥

    module _ (d : ℕ) (h : d < base) where
      read : digit_value (digit_of d) ≡ d
      read = digit_value_lem d (omega arith)

      digits_more : (s : List ℕ) → are_digits base s ≡ true → are_digits base (digit_of d ∷ s) ≡ true
      unfolding are_digits
      digits_more s e = rw (read, lt-ltb d base h) e

      value-more : (v : ℕ) (s : List ℕ) → digits_from base v (digit_of d ∷ s) ≡ digits_from base (v * base + d) s
      unfolding digits_from
      value-more v s = rw read

    spelled : (most n : ℕ) (before : List ℕ) → n < most → Spelled n before (digits_before base most n before)
    unfolding digits_before
    spelled zero n before h = absurd (omega arith)
    spelled (suc most) n before h = go (dec_lt n base) (λ k. spelled most (n / base) (digit_of (n % base) ∷ before) k)
      where
        go :
            Dec (n < base) → (n / base < most → Spelled (n / base) (digit_of (n % base) ∷ before) (digits_before base most (n / base) (digit_of (n % base) ∷ before)))
            → Spelled n before (cond (ltb n base) (digit_of n ∷ before) (digits_before base most (n / base) (digit_of (n % base) ∷ before)))
        go (yes k) rest =
            rw (lt-ltb n base k)
            (record { first = digit_of n; rest = before; shape = refl; digits = digits_more n k before; number = value-more n k 0 before ∙ ap (λ (v : ℕ). digits_from base v before) (omega arith); lead = λ p e. digit_nonzero n p e })
        go (no k) rest =
            let m : n % base < base = below n in
            let q : n / base < n = smaller n (omega arith) in
            let w = rest (omega arith) in
            rw (le-ltb n base (omega arith))
            (record {
              first = w.first;
              rest = w.rest;
              shape = w.shape;
              digits = λ e. w.digits (digits_more (n % base) m before e);
              number = w.number ∙ value-more (n % base) m (n / base) before ∙ ap (λ (v : ℕ). digits_from base v before) (div-add-mod' n base);
              lead = λ p. w.lead (some_left n (omega arith));
            })

    written : (n : ℕ) → Spelled n [] (numeral_text base n)
    unfolding numeral_text
    written n = spelled (suc n) n [] (omega arith)

    -- the digits, and their number
    pub text-digits : (n : ℕ) → are_digits base (numeral_text base n) ≡ true
    unfolding are_digits
    text-digits n = (written n).digits refl

    pub text-value : (n : ℕ) → digits_from base 0 (numeral_text base n) ≡ n
    unfolding digits_from
    text-value n = (written n).number

    pub text-some : (n : ℕ) → 0 < length (numeral_text base n)
    text-some n = omega (arith, ap length (written n).shape)

    pub no_leading_zero : (n : ℕ) → leading_zero (numeral_text base n) ≡ false
    unfolding leading_zero
    no_leading_zero zero = rw (one_digit 0 (omega arith))
    no_leading_zero (suc m) =
        let w = written (suc m) in
        rw w.shape (no_zero (suc m) w.first w.rest w.lead (omega arith))

    -- reading what was written
    pub numeral-read : (max n : ℕ) → n ≤ max → numeral base max (numeral_text base n) ≡ Some n
    unfolding numeral_from
    numeral-read max n h =
        sym (numeral-start base max (numeral_text base n) (λ e. omega (arith, text-some n))) ∙ rw (text-digits n, text-value n, le-leb n max h)

pub decimal-read : (max n : ℕ) → n ≤ max → decimal max (decimal_text n) ≡ Some n
unfolding decimal
decimal-read max n h = rw (no_leading_zero 10 (omega arith) (omega arith) n) (numeral-read 10 (omega arith) (omega arith) max n h)

pub h16-read : (n : ℕ) → n < 65536 → h16 (hex_text n) ≡ Some n
unfolding h16
h16-read n h = rw (le-leb (length (hex_text n)) 4 (text-few 16 (omega arith) n 3 (omega arith))) (numeral-read 16 (omega arith) (omega arith) 65535 n (omega arith))
