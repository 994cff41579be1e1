-- The key of a whole record, where the code reads it.
use mathlib.Core.Path.{◌≡◌, sym, ◌∙◌, ap}
use mathlib.Core.List.{List}
use Prim.Native.Nat.{ℕ, ◌+◌, ◌*◌, ◌≤◌, ◌<◌}
use native.Mathlib.Omega.{arith}
use borrow.Author.Tests.{eq-eqb, ne_eqb}
use lib.ListN.{length, get_or}
use lib.Seq.{slice, length-slice}
use Rattle.registry.specs.Tags.{width_of}
use Rattle.records.specs.Record.{Record}
use Rattle.records.specs.Positions.{bytes_of, Inside, handle_span, name_span}
use Rattle.records.specs.declared.Span.{Span}
use Rattle.records.proofs.Shapes.{no_block, a_block}
use Rattle.merged.specs.Held.{parsed_from, Recorded}
use Rattle.merged.proofs.Known.{known, range-room}
use Rattle.by_key.specs.Key.{bare_key, Key}

module _ (s : List ℕ) (k : Recorded s) where
  abbrev r : Record
  r = parsed_from s

  pub key-block : r.tag ≤ 18 → slice 6 (6 + 2 * width_of r.tag) s ≡ bare_key r
  key-block h = let x = known s k in let b = a_block r.tag x.low h in rw b (x.lies.range b)

  pub key-handle : r.tag ≡ 21 → bytes_of s (handle_span s r.tag 3 (length s)) ≡ bare_key r
  key-handle h = rw (no_block r.tag (omega arith), eq-eqb r.tag 21 h) (known s k).lies.handle

  pub key-name : 18 < r.tag → (r.tag ≡ 21 → ⊥) → bytes_of s (name_span s r.tag 3 (length s)) ≡ bare_key r
  key-name h n = rw (no_block r.tag h, ne_eqb r.tag 21 n) (known s k).lies.name

  -- by the first byte, as the code reads it
  pub block_read : (w : ℕ) → w ≡ width_of (get_or s 0 0) → get_or s 0 0 ≤ 18 → slice 6 (6 + 2 * w) s ≡ bare_key r
  block_read w e h =
      let t = (known s k).tag_is in
      ap (λ (x : ℕ). slice 6 (6 + 2 * x) s) (e ∙ ap width_of t) ∙ key-block (omega (arith, t, h))

  pub handle-inside : (x : Span) → x ≡ handle_span s (get_or s 0 0) 3 (length s) → Inside (length s) x
  handle-inside x e = let k = known s k in rw (e, k.tag_is) k.lies.handle-inside

  pub name-inside : (x : Span) → x ≡ name_span s (get_or s 0 0) 3 (length s) → Inside (length s) x
  name-inside x e = let k = known s k in rw (e, k.tag_is) k.lies.name-inside

  pub handle-read : (x : Span) → x ≡ handle_span s (get_or s 0 0) 3 (length s) → get_or s 0 0 ≡ 21 → bytes_of s x ≡ bare_key r
  handle-read x e h =
      let t = (known s k).tag_is in
      ap (bytes_of s) (e ∙ ap (λ (n : ℕ). handle_span s n 3 (length s)) t) ∙ key-handle (sym t ∙ h)

  pub name-read : (x : Span) → x ≡ name_span s (get_or s 0 0) 3 (length s) → 18 < get_or s 0 0 → (get_or s 0 0 ≡ 21 → ⊥) → bytes_of s x ≡ bare_key r
  name-read x e h n =
      let t = (known s k).tag_is in
      ap (bytes_of s) (e ∙ ap (λ (n : ℕ). name_span s n 3 (length s)) t) ∙ key-name (omega (arith, t, h)) (λ z. n (t ∙ z))

  pub key-known : Key r.tag (bare_key r)
  key-known =
      record {
        known = (known s k).low;
        sized = λ h. rw (← key-block h) (length-slice 6 (6 + 2 * width_of r.tag) s (range-room s k h) ∙ omega arith);
      }

  pub key-read : (t : ℕ) (x : List ℕ) → t ≡ get_or s 0 0 → x ≡ bare_key r → Key t x
  key-read t x e f = rw (e ∙ (known s k).tag_is, f) key-known
