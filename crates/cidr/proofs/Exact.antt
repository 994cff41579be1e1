-- The prefixes of a range are prefixes, ascend, and hold exactly the range.
use Prim.Native.Nat.{ℕ, suc, ◌+◌, ◌^◌, ◌≤◌, ◌<◌}
use mathlib.Core.Logic.{◌⊎◌, inl, inr}
use mathlib.Core.Path.{◌≡◌, refl, sym, subst}
use mathlib.Core.List.Memᴰ
use mathlib.Core.List.{List, [], ◌∷◌, ◌++◌}
use native.Mathlib.Omega.{arith}
use native.Mathlib.Nat.{le_trans, le_refl, le-add_right}
use native.Mathlib.Decide.{dec_lt}
use Rattle.octets.specs.Lists.{◌∈◌}
use Rattle.address.specs.Ranges.{Range}
use Rattle.cidr.specs.Prefixes.{Prefix, prefix}
use Rattle.cidr.specs.Shortest.{Ascending}
use Rattle.cidr.proofs.Multiples.{Multiple, half, other_half}
use Rattle.cidr.proofs.Halving.{Halved, whole, below, above, cut}

-- a prefix inside the range and inside the block of 2 ^ k addresses at f
pub record Inside (r : Range) (k f : ℕ) (p : Prefix) : Type 0 where
  pub from : r.first ≤ p.first
  pub to : p.first + 2 ^ p.free ≤ suc r.last
  pub low : f ≤ p.first
  pub high : p.first + 2 ^ p.free ≤ f + 2 ^ k
  pub short : p.free ≤ k
  pub aligned : Multiple (2 ^ p.free) p.first

-- a prefix of the list that holds x
pub record Held (x : ℕ) (l : List Prefix) : Type 0 where
  pub one : Prefix
  pub listed : one ∈ l
  pub from : one.first ≤ x
  pub to : x < one.first + 2 ^ one.free

module _ {r : Range} where
  pub inside : {k f : ℕ} {l : List Prefix} → Halved r k f l → Multiple (2 ^ k) f → (p : Prefix) → p ∈ l → Inside r k f p
  inside (whole {k = k} {f = f} a b) m p h =
      subst (λ (q : Prefix). Inside r k f q) (sym (Memᴰ.eq_of_singleton h))
      (record { from = a; to = b; low = omega arith; high = omega arith; short = omega arith; aligned = m })
  inside (below a) m p h = absurd (Memᴰ.not-nil h)
  inside (above a) m p h = absurd (Memᴰ.not-nil h)
  inside (cut {k = k} {f = f} {l = l} {m = u} n x y) m p h = go (λ i. inside x (half k m) p i) (λ i. inside y (other_half k m) p i) (Memᴰ.append_cases l h)
    where
      go : (p ∈ l → Inside r k f p) → (p ∈ u → Inside r k (f + 2 ^ k) p) → (p ∈ l) ⊎ (p ∈ u) → Inside r (suc k) f p
      go s t (inl i) = let z = s i in record { from = z.from; to = z.to; low = z.low; high = omega arith; short = omega arith; aligned = z.aligned }
      go s t (inr i) = let z = t i in record { from = z.from; to = z.to; low = omega arith; high = omega arith; short = omega arith; aligned = z.aligned }

  pub held : {k f : ℕ} {l : List Prefix} → Halved r k f l → (x : ℕ) → f ≤ x → x < f + 2 ^ k → r.first ≤ x → x ≤ r.last → Held x l
  held (whole {k = k} {f = f} a b) x p q s t = record { one = prefix f k; listed = Memᴰ.head refl; from = p; to = q }
  held (below a) x p q s t = absurd (omega arith)
  held (above a) x p q s t = absurd (omega arith)
  held (cut {k = k} {f = f} {l = l} {m = u} n g h) x p q s t =
      go (dec_lt x (f + 2 ^ k)) (λ i. held g x p i s t) (λ i. held h x i (omega arith) s t)
    where
      go : Dec (x < f + 2 ^ k) → (x < f + 2 ^ k → Held x l) → (f + 2 ^ k ≤ x → Held x u) → Held x (l ++ u)
      go (yes i) v w = let z = v i in record { one = z.one; listed = Memᴰ.append_left u z.listed; from = z.from; to = z.to }
      go (no i) v w = let z = w (omega arith) in record { one = z.one; listed = Memᴰ.append_right l z.listed; from = z.from; to = z.to }

-- one after the other from n to e
data Chain : ℕ → List Prefix → ℕ → Type 0 where
  done : {n e : ℕ} → n ≤ e → Chain n [] e
  next : {n e : ℕ} {p : Prefix} {l : List Prefix} → n ≤ p.first → Chain (p.first + 2 ^ p.free) l e → Chain n (p ∷ l) e

later : {n m e : ℕ} {l : List Prefix} → m ≤ n → Chain n l e → Chain m l e
later h (done g) = done (le_trans h g)
later h (next g c) = next (le_trans h g) c

joined : {n m e : ℕ} {l u : List Prefix} → Chain n l m → Chain m u e → Chain n (l ++ u) e
joined (done h) c = later h c
joined (next h b) c = next h (joined b c)

chain : {r : Range} {k f : ℕ} {l : List Prefix} → Halved r k f l → Chain f l (f + 2 ^ k)
chain (whole {k = k} {f = f} a b) = next (le_refl f) (done (le_refl (f + 2 ^ k)))
chain (below {k = k} {f = f} a) = done (le-add_right f (2 ^ k))
chain (above {k = k} {f = f} a) = done (le-add_right f (2 ^ k))
chain (cut {k = k} {f = f} {l = l} {m = u} n x y) =
    let e : f + 2 ^ suc k ≡ f + 2 ^ k + 2 ^ k = omega arith in
    subst (λ (z : ℕ). Chain f (l ++ u) z) (sym e) (joined (chain x) (chain y))

chained : {n e : ℕ} {l : List Prefix} → Chain n l e → Ascending n l
chained (done h) = tt
chained (next h c) = (h, chained c)

pub ascending : {r : Range} {k f : ℕ} {l : List Prefix} → Halved r k f l → Ascending f l
ascending x = chained (chain x)
