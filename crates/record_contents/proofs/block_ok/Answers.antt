-- The status, then first and last of the width of the tag (Blocks.antt).
use mathlib.Core.Path.{◌≡◌, refl, ◌∙◌}
use Prim.Native.Nat.{ℕ, ◌+◌, ◌*◌, ◌≤◌}
use mathlib.Core.List.{List}
use Rattle.records.specs.declared.Layout.{Layout}
use Rattle.records.specs.Layout.{LaidOut}
use borrow.Author.Tests.{eq-eqb, ne_eqb}
use native.Mathlib.Omega.{arith}
use lib.ListN.{length}
use Rattle.registry.specs.Tags.{width_of}
use Rattle.records.proofs.Contents.{ranged, ends}
use Rattle.record_contents.proofs.Blocks.{bad-status, good-range}
use Rattle.record_contents.proofs.block_ok.Goals as goal

pub overflow_sub-status : goal.overflow_sub-status
overflow_sub-status c =
    omega (arith, (ends c.args.image.now c.args.r c.requires.0 c.requires.1).0)

pub bounds-image-status : goal.bounds-image-status
bounds-image-status c =
    let e = ends c.args.image.now c.args.r c.requires.0 c.requires.1 in
    omega (arith, e.0, e.1)

pub returns-then-image-status-gt1 : goal.returns-then-image-status-gt1
returns-then-image-status-gt1 c =
    bad-status c.args.image.now c.args.r c.requires.0 c.requires.1 (omega (arith, c.if-image-status-gt1.true))

pub overflow_add-start : goal.overflow_add-start
overflow_add-start c = omega (arith, ranged c.args.image.now c.args.r c.requires.0 c.requires.1)

-- the range of an IPv6 network, and of another block
module _ (image : List ℕ) (r : Layout) (laid : LaidOut (length image) r) (block : r.tag ≤ 18) where
  wide : r.tag ≡ 17 → 16 ≡ width_of r.tag
  wide h = rw (eq-eqb r.tag 17 h)

  wide_room : r.tag ≡ 17 → r.start + 3 + 2 * 16 ≤ length image
  wide_room h = omega (arith, ranged image r laid block, wide h)

  narrow : (r.tag ≡ 17 → ⊥) → 4 ≡ width_of r.tag
  narrow h = rw (ne_eqb r.tag 17 h)

  narrow-room : (r.tag ≡ 17 → ⊥) → r.start + 3 + 2 * 4 ≤ length image
  narrow-room h = omega (arith, ranged image r laid block, narrow h)

pub overflow_add-start-then-r-eq-IPV6_NETWORK : goal.overflow_add-start-then-r-eq-IPV6_NETWORK
overflow_add-start-then-r-eq-IPV6_NETWORK c = omega (arith, wide_room c.args.image.now c.args.r c.requires.0 c.requires.1 c.if-r-eq-IPV6_NETWORK.true)

pub numbers_at_most-requires : goal.numbers_at_most-requires
numbers_at_most-requires c =
    let h = wide_room c.args.image.now c.args.r c.requires.0 c.requires.1 c.if-r-eq-IPV6_NETWORK.true in
    ((omega arith, λ n. refl), omega (arith, h), omega (arith, h))

pub returns-then-r-eq-IPV6_NETWORK : goal.returns-then-r-eq-IPV6_NETWORK
returns-then-r-eq-IPV6_NETWORK c =
    let image = c.args.image.now in
    let r = c.args.r in
    c.numbers_at_most.ensures
    ∙ good-range image r c.requires.0 c.requires.1 (omega (arith, c.if-image-status-gt1.false)) 16 (wide image r c.requires.0 c.requires.1 c.if-r-eq-IPV6_NETWORK.true)

pub overflow_add-start-2 : goal.overflow_add-start-2
overflow_add-start-2 c = omega (arith, narrow-room c.args.image.now c.args.r c.requires.0 c.requires.1 c.if-r-eq-IPV6_NETWORK.false)

pub numbers_at_most-requires-2 : goal.numbers_at_most-requires-2
numbers_at_most-requires-2 c =
    let h = narrow-room c.args.image.now c.args.r c.requires.0 c.requires.1 c.if-r-eq-IPV6_NETWORK.false in
    ((omega arith, λ n. absurd (n refl)), omega (arith, h), omega (arith, h))

pub returns : goal.returns
returns c =
    let image = c.args.image.now in
    let r = c.args.r in
    c.numbers_at_most-2.ensures
    ∙ good-range image r c.requires.0 c.requires.1 (omega (arith, c.if-image-status-gt1.false)) 4 (narrow image r c.requires.0 c.requires.1 c.if-r-eq-IPV6_NETWORK.false)
