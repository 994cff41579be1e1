-- What each test decides of a name n that is matched with a prefix p and a suffix q.
use mathlib.Core.Path.{◌≡◌}
use mathlib.Core.Bool.{Bool, true, false, not}
use mathlib.Core.List.{List}
use Prim.Native.Nat.{ℕ, ◌+◌, ◌-◌, ◌≤◌, ◌<◌}
use Prim.Native.Char.{code}
use native.Mathlib.Omega.{arith}
use lib.ListN.{length, take, drop}
use borrow.Author.Tests.{le-leb, lt-leb}
use Rattle.octets.specs.Lists.{contains}
use Rattle.octets.proofs.Pieces.{rest-is}
use Rattle.texts.specs.Compare.{alike}
use Rattle.pattern.specs.Pattern.{matches}

-- the bytes of n from a to b
abbrev pub part : List ℕ → ℕ → ℕ → List ℕ
part n a b = take (b - a) (drop a n)

module _ (f : Bool) (p q n : List ℕ) where
  pub match_short : length n < length p + length q → false ≡ matches f p q n
  unfolding matches
  match_short h = rw (lt-leb (length p + length q) (length n) h)

  module _ (h : length p + length q ≤ length n) where
    pub match_prefix : alike f p (take (length p) n) ≡ false → false ≡ matches f p q n
    unfolding matches
    match_prefix d = rw (le-leb (length p + length q) (length n) h, d)

    module _ (e : alike f p (take (length p) n) ≡ true) where
      pub match_suffix : alike f q (part n (length n - length q) (length n)) ≡ false → false ≡ matches f p q n
      unfolding matches
      match_suffix d = rw (le-leb (length p + length q) (length n) h, e, ← rest-is n (length n - length q), d)

      module _ (d : alike f q (part n (length n - length q) (length n)) ≡ true) where
        pub match_any : length q ≡ 0 → true ≡ matches f p q n
        unfolding matches
        match_any z =
            let l : length q ≤ 0 = omega arith in
            rw (le-leb (length p + length q) (length n) h, e, ← rest-is n (length n - length q), d, le-leb (length q) 0 l)

        pub match_dots : 0 < length q → not (contains (code ".") (part n (length p) (length n - length q))) ≡ matches f p q n
        unfolding matches
        match_dots l =
            let m : length n - (length p + length q) ≡ length n - length q - length p = omega arith in
            rw (le-leb (length p + length q) (length n) h, e, ← rest-is n (length n - length q), d, lt-leb (length q) 0 l, m)
