-- Blocks are sorted by their first address: from one that begins after a range on, none is around the range and none inside it.
use Prim.Native.Nat.{ℕ, ◌≤◌, ◌<◌}
use mathlib.Core.Bool.{Bool, true, false}
use mathlib.Core.Path.{◌≡◌, refl}
use mathlib.Core.List.Memᴰ
use mathlib.Core.List.{List, [], ◌∷◌}
use native.Mathlib.Omega.{arith}
use Rattle.octets.specs.Lists.{◌∈◌, any}
use Rattle.address.specs.Ranges.{Range, strictly_inside}
use Rattle.forest.specs.Blocks.{Block}
use Rattle.forest.specs.Scans.{down_pass}
use Rattle.octets.proofs.Tests.{is_false, each, any-yes}
use Rattle.address.proofs.Geometry.{covers-iff, strictly_iff, inside-iff}
use Rattle.forest.proofs.Laminar.{Laminar, cons, Before, around, left, is-proper}
use Rattle.forest.proofs.Select.{None}
use Rattle.containment.specs.Tests.{surrounds_by}

rises : {b : Block} {bs : List Block} → Laminar (b ∷ bs) → (c : Block) → c ∈ (b ∷ bs) → b.range.first ≤ c.range.first
rises {b} (cons p f l) = each (λ c. b.range.first ≤ c.range.first) (omega arith) (λ c m. go c (f c m))
  where
    go : (c : Block) → Before b c → b.range.first ≤ c.range.first
    go c (around n s) = omega arith
    go c (left n s) = omega arith

module _ (q : Range) {b : Block} {bs : List Block} (l : Laminar (b ∷ bs)) where
  pub none-around : (strict : Bool) → q.first < b.range.first → None (λ c. surrounds_by strict c.range q) (b ∷ bs)
  none-around true h c m t = let k = (strictly_iff c.range q).0 t in omega (arith, rises l c m)
  none-around false h c m t = let k = (covers-iff c.range q).0 t in omega (arith, rises l c m)

  pub none_inside : q.last < b.range.first → None (λ c. strictly_inside c.range q) (b ∷ bs)
  none_inside h c m t = let k = (inside-iff c.range q).0 t in omega (arith, rises l c m, is-proper l m)

pub down-none : (q : Range) (free : ℕ) (bs : List Block) → None (λ c. strictly_inside c.range q) bs → down_pass q free bs ≡ []
down-none q free [] n = refl
down-none q free (b ∷ bs) n = rw (is_false (strictly_inside b.range q) (n b (Memᴰ.head refl))) (down-none q free bs (λ c m. n c (Memᴰ.tail m)))

pub any_none : (f : Block → Bool) (bs : List Block) → None f bs → any f bs ≡ false
any_none f bs n = is_false (any f bs) (λ t. let r = any-yes f bs t in n r.0 r.1 r.2)
