-- The parts of a layout, by the tag.
use mathlib.Core.Path.{◌≡◌, refl}
use mathlib.Core.Bool.{Bool, true, false, cond}
use Prim.Native.Nat.{ℕ, ◌+◌}
use Rattle.registry.specs.Tags.{is_block}
use Rattle.records.specs.Positions.{Parts}
use Rattle.records.specs.Layout.{parts_of, span_from_to}
use Rattle.records.specs.declared.Span.{Span}
use Rattle.records.specs.declared.Layout.{Layout}

either : (f : Parts → ℕ) (x : ℕ) (v : Bool) (a b : Parts) → x ≡ f a → x ≡ f b → x ≡ f (cond v a b)
either f x true a b e g = e
either f x false a b e g = g

module _ (l : Layout) where
  pub handle-end : l.middle ≡ (parts_of l).handle.end
  handle-end = either (λ (p : Parts). p.handle.end) l.middle (is_block l.tag) _ _ refl refl

  pub name-start : l.middle + 3 ≡ (parts_of l).name.start
  name-start = either (λ (p : Parts). p.name.start) (l.middle + 3) (is_block l.tag) _ _ refl refl

-- the span that has no positions
pub no-span : {x : Span} → (x.start ≡ 0) × (x.end ≡ 0) → x ≡ span_from_to 0 0
no-span e = λ j. record { start = e.0 j; end = e.1 j }
