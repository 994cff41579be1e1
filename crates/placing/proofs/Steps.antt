-- The step, test by test (`step_on`).
use mathlib.Core.Path.{◌≡◌, refl, ◌∙◌, ap}
use mathlib.Core.Bool.{Bool, true, false, cond, not, ◌&&◌}
use mathlib.Core.List.{List}
use Prim.Native.Nat.{ℕ, ◌+◌, ◌≤◌, ◌<◌}
use borrow.Author.Tests.{lt-ltb, le-ltb, eq-eqb, ne_eqb, eqb-true}
use native.Mathlib.Omega.{arith}
use lib.Dec.{ltb, eqb}
use lib.ListN.{length}
use Rattle.registry.specs.Tags.{is_block, width_of}
use Rattle.octets.specs.Number.{at_most}
use Rattle.address.specs.Ranges.{Range, sorts_after}
use Rattle.address.specs.Positions.{range_in}
use Rattle.octets.proofs.Connectives.{or_false}
use Rattle.records.specs.Record.{Record, range_of, key_of, sorted_after, follows}
use Rattle.records.specs.Judge.{in_order}
use Rattle.records.specs.Layout.{record_on, LaidOut}
use Rattle.records.specs.declared.Layout.{Layout}
use Rattle.records.proofs.Shapes.{a_block, no_block}
use Rattle.records.proofs.Contents.{ranged, range_on}
use Rattle.nesting.specs.Nest.{nest_of, open_last}
use Rattle.placing.specs.Step.{nest_in, step_in, BlockRoom, block_step, record_before, Coming, step_on}
use Rattle.std.specs.Prelude.{Option, Some}
use Rattle.nesting.proofs.Families.{wide-family}

module _ (p r : Record) where
  sorted-block : is_block r.tag ≡ true → (a b : Range) → range_of p ≡ a → range_of r ≡ b → sorted_after p r ≡ sorts_after a b
  unfolding sorted_after
  sorted-block h a b e f = rw h (cc)

  sorted-named : is_block r.tag ≡ false → sorted_after p r ≡ not (at_most (key_of r) (key_of p))
  unfolding sorted_after
  sorted-named h = rw h

module _ (lasts : ℕ → ℕ) (family : ℕ) (r : Record) (depth : ℕ) where
  pub nest-other : (family ≡ r.tag → ⊥) → nest_in lasts family r depth ≡ Some 0
  nest-other n = rw (ne_eqb family r.tag n) (by-tag (is_block r.tag))
    where
      by-tag : (t : Bool) → cond (t && false) (nest_of lasts (range_of r) depth) (Some 0) ≡ Some 0
      by-tag true = refl
      by-tag false = refl

  pub nest-named : 18 < r.tag → nest_in lasts family r depth ≡ Some 0
  nest-named h = rw (no_block r.tag h)

  pub nest-family : is_block r.tag ≡ true → family ≡ r.tag → (x : Range) → range_of r ≡ x → nest_in lasts family r depth ≡ nest_of lasts x depth
  nest-family h e x f = rw (h, eq-eqb family r.tag e, f)

module _ {b : List ℕ} {p : Layout} {s : List ℕ} {r : Layout} {o stack : List ℕ} {depth : ℕ} (c : Coming b p s r o stack depth) where
  by_tests : (u : Bool) (n : Option ℕ) → in_order (record_before b p) (record_on s r) ≡ u → nest_in (open_last o (width_of p.tag) stack) p.tag (record_on s r) depth ≡ n
      → step_in u n ≡ step_on b p s r o stack depth
  by_tests u n e f = rw (e, f)

  -- another tag
  order_other : (p.tag ≡ r.tag → ⊥) → in_order (record_before b p) (record_on s r) ≡ ltb p.tag r.tag
  unfolding in_order follows
  order_other n = by_before (eqb p.tag 0) refl
    where
      by_before : (t : Bool) → eqb p.tag 0 ≡ t → in_order (record_before b p) (record_on s r) ≡ ltb p.tag r.tag
      by_before true e =
          let z : p.tag ≡ 0 = eqb-true p.tag 0 e in
          rw (e, lt-ltb p.tag r.tag (omega (arith, c.laid.known)))
      by_before false e = rw (e, ne_eqb p.tag r.tag n) (or_false (ltb p.tag r.tag))

  pub step_other : (p.tag ≡ r.tag → ⊥) → step_in (ltb p.tag r.tag) (Some 0) ≡ step_on b p s r o stack depth
  step_other n = by_tests _ (Some 0) (order_other n) (nest-other _ _ (record_on s r) depth n)

  -- the same tag
  module _ (e : p.tag ≡ r.tag) where
    pub before : LaidOut (length b) p
    before = c.earlier (omega (arith, c.laid.known))

    order_same : in_order (record_before b p) (record_on s r) ≡ sorted_after (record_on b p) (record_on s r)
    unfolding in_order follows
    order_same =
        let n : p.tag ≡ 0 → ⊥ = λ z. omega (arith, c.laid.known) in
        rw (ne_eqb p.tag 0 n, le-ltb p.tag r.tag (omega arith), eq-eqb p.tag r.tag e)

    pub step-named : 18 < r.tag → (v : Bool) → not (at_most (key_of (record_on s r)) (key_of (record_on b p))) ≡ v → step_in v (Some 0) ≡ step_on b p s r o stack depth
    step-named k v f = by_tests v (Some 0) (order_same ∙ sorted-named (record_on b p) (record_on s r) (no_block r.tag k) ∙ f) (nest-named _ _ (record_on s r) depth k)

    module _ (k : r.tag ≤ 18) (w : ℕ) (z : w ≡ width_of r.tag) where
      pub block_room : BlockRoom b (p.start + 3) s (r.start + 3) w o stack depth
      block_room = rw z (record {
        before = rw (← e) (ranged b p before (omega arith));
        room = record { wide = wide-family r.tag; own = ranged s r c.laid k; few = (c.open_blocks k e).0; opened = (c.open_blocks k e).1 };
      })

      pub step_block : block_step b (p.start + 3) s (r.start + 3) w o stack depth ≡ step_on b p s r o stack depth
      step_block =
          let f : range_of (record_on b p) ≡ range_in b (p.start + 3) (width_of r.tag) = range_on b p before (omega arith) ∙ ap (λ (t : ℕ). range_in b (p.start + 3) (width_of t)) e in
          let g = range_on s r c.laid k in
          rw z (by_tests _ _ (order_same ∙ sorted-block (record_on b p) (record_on s r) (a_block r.tag c.laid.known k) _ _ f g)
          (nest-family _ _ (record_on s r) depth (a_block r.tag c.laid.known k) e _ g ∙ rw e))
