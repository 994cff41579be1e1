-- The second call in positions: what the code reads where a record starts is what the definition reads there (`contents-read`), and has the part
-- of the record of the number (`span_some`); without such a record the part is empty. So the span of the definition has the part (`span_is-part`).
use mathlib.Core.Path.{◌≡◌, refl, sym, ◌∙◌, ap, subst}
use mathlib.Core.List.{List}
use Prim.Native.Nat.{ℕ, ◌≤◌, ◌<◌}
use native.Mathlib.Omega.{arith}
use native.Mathlib.Decide.{dec_lt}
use borrow.Author.Tests.{lt-ltb, le-ltb}
use lib.ListN.{length, drop_of_length-le}
use lib.Seq.{slice_empty}
use Rattle.std.specs.Prelude.{Option, Some, None}
use Rattle.fields.specs.Positions.{field_at}
use Rattle.fields.specs.Heads.{field-inside}
use Rattle.fields.specs.declared.Field.{Field}
use Rattle.records.specs.declared.Span.{Span}
use Rattle.image.specs.Image.{Image, sound, defective, image_of}
use Rattle.image.specs.Part.{records_of, contents_of_first}
use Rattle.image.specs.Checking.{verdict_of, numbers_in}
use Rattle.image.specs.Entries.{start_of, contents_in, contents_span, span_of, PartSpan, SpanIsPart}
use Rattle.image.specs.Index.{Standing}
use Rattle.registry.specs.declared.Part.{Part}
use Rattle.registry.specs.declared.Flaw.{Flaw}
use Rattle.std.specs.Prelude.{Result, Ok, Err}
use Rattle.image.proofs.Soundness.{counted, verdict_defective}
use Rattle.entries.proofs.Standing.{standing_of, contents_in_image}

-- the field at a position, as a reader finds it
module _ (s : List ℕ) (at : ℕ) (f : Option Field) (e : f ≡ field_at s at (length s)) where
  pub no-contents : f ≡ None → (which : Part) → record { start = 0; end = 0 } ≡ contents_span which s at
  unfolding contents_span
  no-contents k which = rw (← e, k)

  module _ (q : Field) (k : f ≡ Some q) where
    pub end-inside : q.end ≤ length s
    end-inside = (field-inside s at (length s) q (sym e ∙ k)).within

    pub contents-read : (which w : Part) → which ≡ w → {x : Span} → x ≡ contents_in w s (Some q) → x ≡ contents_span which s at
    unfolding contents_span
    contents-read which w h z = rw (h, ← e, k) z

pub defective-none : (i : Image) (v : Result ℕ Flaw) (flaw : Flaw) → numbers_in v ≡ verdict_of i → v ≡ Err flaw → length (records_of i) ≡ 0
defective-none (sound records) v flaw e f = let k = verdict_defective e f in let z : ◌≡◌ {A = ℕ} 0 1 = cc in absurd (omega arith)
defective-none (defective a b) v flaw e f = refl

module _ (s : List ℕ) (n : ℕ) (which : Part) where
  pub span_none : length (records_of (image_of s)) ≤ n → PartSpan s n which (record { start = 0; end = 0 })
  unfolding span_of
  span_none h = record {
    same = rw (le-ltb n (length (records_of (image_of s))) h);
    bytes = slice_empty 0 s ∙ rw (drop_of_length-le (records_of (image_of s)) h);
    inside = record { forward = omega arith; within = omega arith };
  }

  module _ {count : ℕ} (e : verdict_of (image_of s) ≡ Ok count) where
    pub span_beyond : count ≤ n → PartSpan s n which (record { start = 0; end = 0 })
    span_beyond h = span_none (omega (arith, counted (image_of s) count e))

    span_there : n < count → PartSpan s n which (contents_span which s (start_of s n))
    unfolding span_of
    span_there h =
        let k : Standing s n = standing_of s count e n h in
        record {
          same = rw (lt-ltb n (length (records_of (image_of s))) (omega (arith, counted (image_of s) count e)));
          bytes = k.contents which ∙ sym (ap (contents_of_first which) k.here);
          inside = contents_in_image k which;
        }

    pub span_some : n < count → (start : ℕ) → start ≡ start_of s n → (x : Span) → x ≡ contents_span which s start → PartSpan s n which x
    span_some h start p x z = rw (z, p) (span_there h)

pub span_is-part : SpanIsPart
span_is-part s n which = go (image_of s) refl (dec_lt n (length (records_of (image_of s))))
  where
    same-part : {x : Span} → PartSpan s n which x → PartSpan s n which (span_of s n which)
    same-part p = subst (λ (x : Span). PartSpan s n which x) p.same p

    go : (i : Image) → image_of s ≡ i → Dec (n < length (records_of (image_of s))) → PartSpan s n which (span_of s n which)
    go i e (no h) = same-part (span_none s n which (omega arith))
    go (sound records) e (yes h) = same-part (span_there s n which (ap verdict_of e) (rw e at h))
    go (defective d p) e (yes h) = absurd (let k : n < length (records_of (defective d p)) = rw e at h in omega arith)
