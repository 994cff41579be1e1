-- Numbers with a separator between them: one after another, cut again into pieces and read, and how long they are.
use Prim.Native.Nat.{ℕ, suc, ◌*◌, ◌^◌, ◌≤◌, ◌<◌}
use mathlib.Core.Path.{◌≡◌, refl, sym, ap, ◌∙◌}
use mathlib.Core.List.{List, [], ◌∷◌, ◌++◌, map, append_assoc, append-nil}
use mathlib.Core.Bool.{false}
use native.Mathlib.Omega.{arith}
use native.Mathlib.Nat.{suc-mul}
use lib.ListN.{length, length-append}
use borrow.Author.Tests.{ne_eqb}
use Rattle.octets.specs.Number.{Digits}
use Rattle.octets.specs.Lists.{contains}
use Rattle.octets.proofs.Below.{digits-rest}
use Rattle.octets.specs.Split.{split}
use Rattle.octets.proofs.Cuts.{split_then, split-whole, lacks_both}
use Rattle.numeral.specs.Numeral.{digit_value, digits_from}
use Rattle.numeral.specs.Digits.{numeral_text, following, spelled}
use Rattle.numeral.proofs.Laws.{digits_lack}
use Rattle.numeral.proofs.Digits.{text-digits, text-value, text-few, text-some}

module _ (sep base : ℕ) where
  pub following_append : (xs ys : List ℕ) → following sep base (xs ++ ys) ≡ following sep base xs ++ following sep base ys
  unfolding following
  following_append [] ys = refl
  following_append (x ∷ xs) ys = rw (following_append xs ys) (sym (append_assoc (sep ∷ numeral_text base x) (following sep base xs) (following sep base ys)))

  pub following-one : (n : ℕ) → following sep base (n ∷ []) ≡ sep ∷ numeral_text base n
  unfolding following
  following-one n = append-nil (sep ∷ numeral_text base n)

  module _ (low : 2 ≤ base) where
    -- a separator and at most k digits each below base ^ k
    pub following-most : (k : ℕ) (ns : List ℕ) → Digits (base ^ suc k) ns → length (following sep base ns) ≤ length ns * suc (suc k)
    unfolding following
    following-most k [] d = omega arith
    following-most k (n ∷ ns) d =
        omega (arith, text-few base low n k (d 0 (omega arith)), following-most k ns (digits-rest (base ^ suc k) n ns d), suc-mul (length ns) (suc (suc k)), length-append (sep ∷ numeral_text base n) (following sep base ns))

    -- a separator less than numbers
    pub spelled-most : (k n : ℕ) (ns : List ℕ) → Digits (base ^ suc k) (n ∷ ns) → suc (length (spelled sep base (n ∷ ns))) ≤ suc (length ns) * suc (suc k)
    unfolding spelled
    spelled-most k n ns d =
        omega (arith, text-few base low n k (d 0 (omega arith)), following-most k ns (digits-rest (base ^ suc k) n ns d), suc-mul (length ns) (suc (suc k)), length-append (numeral_text base n) (following sep base ns))

    pub spelled-bound : (k : ℕ) (ns : List ℕ) → Digits (base ^ suc k) ns → length (spelled sep base ns) ≤ length ns * suc (suc k)
    unfolding spelled
    spelled-bound k [] d = omega arith
    spelled-bound k (n ∷ ns) d = omega (arith, spelled-most k n ns d)

    module _ (high : base ≤ 16) where
      -- a separator and a digit each
      pub following_least : (ns : List ℕ) → length ns * 2 ≤ length (following sep base ns)
      unfolding following
      following_least [] = omega arith
      following_least (n ∷ ns) =
          omega (arith, text-some base low high n, following_least ns, length-append (sep ∷ numeral_text base n) (following sep base ns))

      pub spelled_least : (n : ℕ) (ns : List ℕ) → length ns * 2 < length (spelled sep base (n ∷ ns))
      unfolding spelled
      spelled_least n ns = omega (arith, text-some base low high n, following_least ns, length-append (numeral_text base n) (following sep base ns))

      -- the separator is no digit
      module _ (apart : base ≤ digit_value sep) where
        pub text_lacks : (n : ℕ) → contains sep (numeral_text base n) ≡ false
        text_lacks n = digits_lack base sep apart (numeral_text base n) (text-digits base low high n)

        pub split-spelled : (n : ℕ) (ns : List ℕ) → split sep (spelled sep base (n ∷ ns)) ≡ numeral_text base n ∷ map (numeral_text base) ns
        unfolding spelled following
        split-spelled n [] = rw append-nil (split-whole sep (numeral_text base n) (text_lacks n))
        split-spelled n (m ∷ ns) =
            split_then sep (numeral_text base n) (numeral_text base m ++ following sep base ns) (text_lacks n) ∙ ap (λ (ps : List (List ℕ)). numeral_text base n ∷ ps) (split-spelled m ns)

      -- a byte that is neither the separator nor a digit
      module _ (x : ℕ) (no_digit : base ≤ digit_value x) (other : sep ≡ x → ⊥) where
        following_lacks : (ns : List ℕ) → contains x (following sep base ns) ≡ false
        unfolding following contains
        following_lacks [] = refl
        following_lacks (n ∷ ns) =
            rw (ne_eqb sep x other) (lacks_both x (numeral_text base n) (following sep base ns) (digits_lack base x no_digit (numeral_text base n) (text-digits base low high n)) (following_lacks ns))

        pub spelled_lacks : (ns : List ℕ) → contains x (spelled sep base ns) ≡ false
        unfolding spelled contains
        spelled_lacks [] = refl
        spelled_lacks (n ∷ ns) =
            lacks_both x (numeral_text base n) (following sep base ns) (digits_lack base x no_digit (numeral_text base n) (text-digits base low high n)) (following_lacks ns)

      pub values_read : (ns : List ℕ) → map (digits_from base 0) (map (numeral_text base) ns) ≡ ns
      values_read [] = refl
      values_read (n ∷ ns) = rw (text-value base low high n, values_read ns)
