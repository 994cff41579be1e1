-- At every width the prefixes of a range are the shortest list that holds exactly the range.
use Prim.Native.Nat.{ℕ, ◌+◌, ◌-◌, ◌^◌, ◌≤◌, ◌<◌}
use mathlib.Core.Logic.{◌↔◌}
use mathlib.Core.Path.{sym, subst}
use mathlib.Core.List.{List}
use native.Mathlib.Omega.{arith}
use lib.Dec.{T}
use lib.ListN.{length}
use lib.Pow.{pow_pos}
use Rattle.octets.specs.Lists.{◌∈◌, any}
use Rattle.address.specs.Ranges.{Range, single, covers}
use Rattle.octets.proofs.Tests.{any-yes, yes-any, same_test}
use Rattle.address.proofs.Geometry.{covers-iff}
use Rattle.cidr.specs.Prefixes.{Prefix, addresses, halved, prefixes_of}
use Rattle.cidr.specs.Shortest.{IsPrefix, Exact, PrefixesShortest}
use Rattle.cidr.proofs.Multiples.{Multiple, of_remainder, to_remainder}
use Rattle.cidr.proofs.Halving.{Halved, halves}
use Rattle.cidr.proofs.Exact.{Inside, Held, inside, held, ascending}
use Rattle.cidr.proofs.Minimal.{Fits, minimal}
use Rattle.cidr.proofs.Few.{few}

-- an address of a range
in_range : (r : Range) (x : ℕ) → T (covers r (single x)) ↔ ((r.first ≤ x) × (x ≤ r.last))
unfolding single
in_range r x = covers-iff r (single x)

-- an address of a prefix
in_prefix : (p : Prefix) (x : ℕ) → T (covers (addresses p) (single x)) ↔ ((p.first ≤ x) × (x < p.first + 2 ^ p.free))
unfolding addresses
in_prefix p x = (
  λ t. let s = (in_range (addresses p) x).0 t in (s.0, omega (arith, s.1, pow_pos p.free)),
  λ h. (in_range (addresses p) x).1 (h.0, omega (arith, h.1)),
)

-- what an exact list of prefixes gives
module _ {w : ℕ} {r : Range} (qs : List Prefix) (prefixes : (q : Prefix) → q ∈ qs → IsPrefix w q) (exact : Exact qs r) where
  fits : (q : Prefix) → q ∈ qs → Fits r q
  fits q i =
      let a = at q.first (omega arith) (omega (arith, pow_pos q.free)) in
      let b = at (q.first + 2 ^ q.free - 1) (omega (arith, pow_pos q.free)) (omega (arith, pow_pos q.free)) in
      record { from = a.0; to = omega (arith, b.1); aligned = of_remainder q.first q.free (prefixes q i).zeros }
    where
      at : (x : ℕ) → q.first ≤ x → x < q.first + 2 ^ q.free → (r.first ≤ x) × (x ≤ r.last)
      at x h l = (in_range r x).0 (subst T (exact x) (yes-any (λ (p : Prefix). covers (addresses p) (single x)) i ((in_prefix q x).1 (h, l))))

  has : (x : ℕ) → r.first ≤ x → x ≤ r.last → Held x qs
  has x h l =
      let y = any-yes (λ (p : Prefix). covers (addresses p) (single x)) qs (subst T (sym (exact x)) ((in_range r x).1 (h, l))) in
      let z = (in_prefix y.0 x).0 y.2 in
      record { one = y.0; listed = y.1; from = z.0; to = z.1 }

pub shortest : PrefixesShortest
unfolding prefixes_of
shortest w r h = record {
  prefixes = λ p i. let z = each p i in record { short = z.short; zeros = to_remainder p.free z.aligned; address = omega (arith, z.high, pow_pos p.free) };
  ascending = ascending tree;
  exact = λ x. same_test (any (λ (p : Prefix). covers (addresses p) (single x)) (halved r w 0)) (covers r (single x)) (λ t. only x t) (λ t. all x t);
  shortest = λ qs prefixes exact. minimal qs (fits qs prefixes exact) (has qs prefixes exact) tree zero-multiple;
  few = λ g. omega (arith, few tree);
}
  where
    tree : Halved r w 0 (halved r w 0)
    tree = halves r w 0

    zero-multiple : Multiple (2 ^ w) 0
    zero-multiple = record { times = 0; equal = omega arith }

    each : (p : Prefix) → p ∈ halved r w 0 → Inside r w 0 p
    each p i = inside tree zero-multiple p i

    only : (x : ℕ) → T (any (λ (p : Prefix). covers (addresses p) (single x)) (halved r w 0)) → T (covers r (single x))
    only x t =
        let y = any-yes (λ (p : Prefix). covers (addresses p) (single x)) (halved r w 0) t in
        let z = (in_prefix y.0 x).0 y.2 in
        let i = each y.0 y.1 in
        (in_range r x).1 (omega arith, omega arith)

    all : (x : ℕ) → T (covers r (single x)) → T (any (λ (p : Prefix). covers (addresses p) (single x)) (halved r w 0))
    all x t =
        let z = (in_range r x).0 t in
        let q = held tree x (omega arith) (omega arith) z.0 z.1 in
        yes-any (λ (p : Prefix). covers (addresses p) (single x)) q.listed ((in_prefix q.one x).1 (q.from, q.to))

pub at-most_62 : (r : Range) → r.last < 2 ^ 32 → length (prefixes_of 32 r) ≤ 62
at-most_62 r h = (shortest 32 r h).few (omega arith)

pub at-most_254 : (r : Range) → r.last < 2 ^ 128 → length (prefixes_of 128 r) ≤ 254
at-most_254 r h = (shortest 128 r h).few (omega arith)
