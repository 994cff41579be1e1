-- No list of prefixes that holds exactly the range is shorter: a prefix inside the range that meets a block which is not inside lies in one half of it.
use Prim.Native.Nat.{ℕ, suc, ◌+◌, ◌^◌, ◌≤◌, ◌<◌, zero-le}
use mathlib.Core.Bool.{Bool, true, false, cond, ◌&&◌, true≢false}
use mathlib.Core.Path.{◌≡◌, refl, sym, subst, ◌∙◌}
use mathlib.Core.List.Memᴰ
use mathlib.Core.List.{List, [], ◌∷◌}
use native.Mathlib.Omega.{arith}
use borrow.Author.Tests.{ltb-true, lt-ltb}
use lib.Dec.{ltb}
use lib.ListN.{length, length-append}
use lib.Pow.{pow_pos}
use Rattle.octets.specs.Lists.{◌∈◌}
use Rattle.address.specs.Ranges.{Range}
use Rattle.cidr.specs.Prefixes.{Prefix}
use Rattle.cidr.proofs.Multiples.{Multiple, half, other_half, across}
use Rattle.cidr.proofs.Halving.{Halved, whole, below, above, cut}
use Rattle.cidr.proofs.Exact.{Held}

-- how many elements pass the test
abbrev count : (Prefix → Bool) → List Prefix → ℕ
count t [] = 0
count t (q ∷ qs) = cond (t q) 1 0 + count t qs

count-all : (t : Prefix → Bool) (qs : List Prefix) → count t qs ≤ length qs
count-all t [] = zero-le
count-all t (q ∷ qs) = omega (arith, one_more (t q), count-all t qs)
  where
    one_more : (b : Bool) → cond b 1 0 ≤ 1
    one_more true = omega arith
    one_more false = omega arith

count-one : (t : Prefix → Bool) {q : Prefix} {qs : List Prefix} → q ∈ qs → t q ≡ true → 1 ≤ count t qs
count-one t (Memᴰ.head {x = p} {xs = qs} e) h =
    let g : t p ≡ true = subst (λ (z : Prefix). t z ≡ true) e h in
    rw g (omega arith)
count-one t (Memᴰ.tail {x = p} {xs = qs} m) h = omega (arith, count-one t m h)

-- where no element passes both s and t, and what passes one passes u
count-two : (s t u : Prefix → Bool) (qs : List Prefix) → ((q : Prefix) → q ∈ qs → cond (s q) 1 0 + cond (t q) 1 0 ≤ cond (u q) 1 0) → count s qs + count t qs ≤ count u qs
count-two s t u [] h = zero-le
count-two s t u (q ∷ qs) h =
    omega (arith, h q (Memᴰ.head refl), count-two s t u qs (λ p m. h p (Memᴰ.tail m)))

-- q and the block of 2 ^ k addresses at f share an address
abbrev meets : ℕ → ℕ → Prefix → Bool
meets k f q = ltb q.first (f + 2 ^ k) && ltb f (q.first + 2 ^ q.free)

module _ (k f : ℕ) (q : Prefix) where
  met : meets k f q ≡ true → (q.first < f + 2 ^ k) × (f < q.first + 2 ^ q.free)
  met e = go (ltb q.first (f + 2 ^ k)) (ltb f (q.first + 2 ^ q.free)) refl refl e
    where
      go : (a b : Bool) → ltb q.first (f + 2 ^ k) ≡ a → ltb f (q.first + 2 ^ q.free) ≡ b → (a && b) ≡ true
          → (q.first < f + 2 ^ k) × (f < q.first + 2 ^ q.free)
      go true true a b e = (ltb-true q.first (f + 2 ^ k) a, ltb-true f (q.first + 2 ^ q.free) b)
      go true false a b e = absurd (true≢false (sym e))
      go false d a b e = absurd (true≢false (sym e))

  meeting : q.first < f + 2 ^ k → f < q.first + 2 ^ q.free → meets k f q ≡ true
  meeting a b = rw (lt-ltb q.first (f + 2 ^ k) a, lt-ltb f (q.first + 2 ^ q.free) b)

-- a prefix inside the range
pub record Fits (r : Range) (q : Prefix) : Type 0 where
  pub from : r.first ≤ q.first
  pub to : q.first + 2 ^ q.free ≤ suc r.last
  pub aligned : Multiple (2 ^ q.free) q.first

module _ {r : Range} where
  one-half : (k f : ℕ) → Multiple (2 ^ suc k) f → (r.first ≤ f → suc r.last < f + 2 ^ suc k) → (q : Prefix) → Fits r q
      → cond (meets k f q) 1 0 + cond (meets k (f + 2 ^ k) q) 1 0 ≤ cond (meets (suc k) f q) 1 0
  one-half k f m n q i = go (meets k f q) (meets k (f + 2 ^ k) q) (meets (suc k) f q) refl refl refl
    where
      go : (a b c : Bool) → meets k f q ≡ a → meets k (f + 2 ^ k) q ≡ b → meets (suc k) f q ≡ c → cond a 1 0 + cond b 1 0 ≤ cond c 1 0
      go true true c x y z =
          let u = met k f q x in
          let v = met k (f + 2 ^ k) q y in
          let w = across k q.free m i.aligned u.0 v.1 in
          absurd (omega (arith, n (omega (arith, i.from))))
      go true false true x y z = omega arith
      go false true true x y z = omega arith
      go false false c x y z = zero-le
      go true false false x y z =
          let u = met k f q x in
          absurd (true≢false (sym (meeting (suc k) f q (omega arith) u.1) ∙ z))
      go false true false x y z =
          let v = met k (f + 2 ^ k) q y in
          absurd (true≢false (sym (meeting (suc k) f q (omega arith) (omega arith)) ∙ z))

  module _ (qs : List Prefix) (fits : (q : Prefix) → q ∈ qs → Fits r q) (holds : (x : ℕ) → r.first ≤ x → x ≤ r.last → Held x qs) where
    counted : {k f : ℕ} {l : List Prefix} → Halved r k f l → Multiple (2 ^ k) f → length l ≤ count (meets k f) qs
    counted (whole {k = k} {f = f} a b) m =
        let h = holds f a (omega (arith, pow_pos k)) in
        count-one (meets k f) h.listed (meeting k f h.one (omega (arith, pow_pos k)) h.to)
    counted (below a) m = zero-le
    counted (above a) m = zero-le
    counted (cut {k = k} {f = f} {l = l} {m = u} n x y) m =
        omega (arith, length-append l u, counted x (half k m), counted y (other_half k m), count-two (meets k f) (meets k (f + 2 ^ k)) (meets (suc k) f) qs (λ q i. one-half k f m n q (fits q i)))

    pub minimal : {k f : ℕ} {l : List Prefix} → Halved r k f l → Multiple (2 ^ k) f → length l ≤ length qs
    minimal {k} {f} h m = omega (arith, counted h m, count-all (meets k f) qs)
