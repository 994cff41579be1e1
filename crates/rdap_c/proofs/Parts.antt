-- Offset and length of a part fit 32 bits: a record lies in a sound image, which has at most 262,144 bytes, and else both are 0.
use Prim.Native.Nat.{ℕ, ◌≤◌, ◌<◌}
use mathlib.Core.Bool.{Bool, true, false, cond}
use mathlib.Core.Path.{◌≡◌, refl}
use mathlib.Core.List.{List}
use native.Mathlib.Omega.{arith}
use borrow.Author.Tests.{ltb-true}
use lib.Dec.{ltb}
use lib.ListN.{length}
use Rattle.records.specs.declared.Span.{Span}
use Rattle.image.specs.Image.{Image, sound, defective, image_of}
use Rattle.image.specs.Part.{records_of}
use Rattle.image.specs.Entries.{span_of, PartSpan}
use Rattle.registry.specs.declared.Part.{Part}
use Rattle.image.proofs.Soundness.{opens}

with_record : (s : List ℕ) (n : ℕ) → n < length (records_of (image_of s)) → length s ≤ 262144
with_record s n h = go (image_of s) refl h
  where
    go : (i : Image) → image_of s ≡ i → n < length (records_of i) → length s ≤ 262144
    go (sound records) e k = (opens s records e).few_bytes
    go (defective d p) e k = absurd (omega (arith, k))

pub end-small : {s : List ℕ} {n : ℕ} {which : Part} {r : Span} → PartSpan s n which r → r.end ≤ 262144
unfolding span_of
end-small {s} {n} {which} {r} h = go (ltb n (length (records_of (image_of s)))) refl _ h.same
  where
    go : (t : Bool) → ltb n (length (records_of (image_of s))) ≡ t → (x : Span) → r ≡ cond t x (record { start = 0; end = 0 }) → r.end ≤ 262144
    go true e x k = let l = with_record s n (ltb-true _ _ e) in omega (arith, h.inside)
    go false e x k = rw k (omega arith)
