-- Families of blocks and their widths, and the sorting of two ranges by three comparisons.
use mathlib.Core.Path.{◌≡◌, refl}
use mathlib.Core.Bool.{Bool, true, false, cond, not, ◌&&◌, false≢true}
use Prim.Native.Nat.{ℕ, ◌≤◌, ◌<◌}
use borrow.Author.Tests.{lt-ltb, le-ltb, leb-true, leb-false, eq-eqb, ne_eqb}
use native.Mathlib.Omega.{arith}
use lib.Dec.{leb, eqb}
use Rattle.registry.specs.Tags.{is_block, width_of}
use Rattle.address.specs.Ranges.{Range, sorts_after}
use Rattle.octets.specs.Positions.{Wide}
use Rattle.address.proofs.Covering.{not-leb}

pub low-family : (family : ℕ) → is_block family ≡ true → family ≤ 18
low-family family e = go (leb 0x10 family) e
  where
    go : (t : Bool) → (t && leb family 0x12) ≡ true → family ≤ 18
    go true k = leb-true _ _ k
    go false k = absurd (false≢true k)

pub wide-family : (family : ℕ) → Wide (width_of family)
wide-family family = go (eqb family 0x11)
  where
    go : (t : Bool) → Wide (cond t 16 4)
    go true = (omega arith, λ n. refl)
    go false = (omega arith, λ n. absurd (n refl))

module _ (p r : Range) where
  pub after_first : leb r.first p.first ≡ false → true ≡ sorts_after p r
  unfolding sorts_after
  after_first e = rw (lt-ltb p.first r.first (leb-false r.first p.first e))

  module _ (e : leb r.first p.first ≡ true) where
    pub before-first : leb p.first r.first ≡ false → false ≡ sorts_after p r
    unfolding sorts_after
    before-first f =
        let h : r.first < p.first = leb-false p.first r.first f in
        let n : p.first ≡ r.first → ⊥ = λ z. omega arith in
        rw (le-ltb p.first r.first (omega arith), ne_eqb p.first r.first n)

    pub same_first : leb p.first r.first ≡ true → (v : Bool) → v ≡ leb p.last r.last → not v ≡ sorts_after p r
    unfolding sorts_after
    same_first f v g =
        let h : r.first ≤ p.first = leb-true r.first p.first e in
        let k : p.first ≤ r.first = leb-true p.first r.first f in
        rw (le-ltb p.first r.first h, eq-eqb p.first r.first (omega arith)) (not-leb p.last r.last g)
