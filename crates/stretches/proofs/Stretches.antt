-- Records that stand one after another in the image: one, one more, and what is written of them.
use mathlib.Core.Path.{◌≡◌, sym, ◌∙◌, ap}
use mathlib.Core.List.{List, ◌++◌, append_assoc}
use Prim.Native.Nat.{ℕ, ◌+◌, ◌-◌, ◌≤◌, ◌<◌}
use native.Mathlib.Omega.{arith}
use lib.ListN.{length, get_or, take, drop, length-append, length-take, take-append-drop}
use lib.Seq.{slice}
use Rattle.fields.specs.Slices.{take-slice, drop-slice}
use Rattle.output.specs.Writing.{Written}
use Rattle.output.proofs.Writing.{Parted}
use Rattle.merged.specs.Held.{field_bytes, bytes_at, row_at}
use Rattle.merged.specs.Listed.{bytes_of_number}
use Rattle.merged.specs.declared.Records.{Records}
use Rattle.merged.proofs.Fields.{ended, start-image}
use Rattle.stretches.specs.Stretches.{Stretched, PutNext}
use Rattle.stretches.proofs.Rows.{next_record}

-- a part and the one behind it
slices : (a b c : ℕ) (s : List ℕ) → a ≤ b → b ≤ c → slice a b s ++ slice b c s ≡ slice a c s
slices a b c s h k =
    let e : a + (b - a) ≡ b = omega arith in
    let front : take (b - a) (slice a c s) ≡ slice a b s = take-slice (b - a) a c s (omega arith) ∙ rw e in
    let rest : drop (b - a) (slice a c s) ≡ slice b c s = drop-slice (b - a) a c s ∙ rw e in
    rw (← front, ← rest) (take-append-drop (b - a) (slice a c s))

-- a part is no longer than the whole
pub part-short : {rest part left : List ℕ} → Parted rest part left → {m : ℕ} → length rest ≤ m → length part ≤ m
part-short {part = part} {left} p h = omega (arith, ap length p.is, length-append part left)

pub put_record : (records : Records) → records.count ≤ length records.starts → {i : ℕ} → i < records.count → {before after : List ℕ} {size : ℕ} → Written (bytes_of_number records i) before after size
    → PutNext records i before after (record { size = size; until = i + 1 })
put_record records h {i} l w = record {
  some = omega arith;
  few = omega arith;
  bytes = bytes_of_number records i;
  joined = (next_record records.image.now records.changes.now records.starts records.count h l).is;
  written = w;
}

-- the end of the last record, as it was read
pub read-end : {image changes starts bytes : List ℕ} {i from until : ℕ} (last : ℕ) → Stretched image changes starts i from (last + length (field_bytes image last)) until
    → bytes ≡ field_bytes image last → Stretched image changes starts i from (last + length bytes) until
read-end last s e = rw e s

module _ (image changes index : List ℕ) (n : ℕ) (h : n ≤ length index) where
  module _ (few : length image ≤ 262144) where
    here : (at : ℕ) → at < length image → slice at (at + length (field_bytes image at)) image ≡ bytes_at image changes at
    here at l = start-image image changes _ at (omega arith) (sym (ended image at (omega arith)).same)

    pub one : (i : ℕ) → i < n → get_or index i 0 < length image
        → Stretched image changes (take n index) i (get_or index i 0) (get_or index i 0 + length (field_bytes image (get_or index i 0))) (i + 1)
    one i l k = record {
      some = omega arith;
      few = omega (arith, length-take n index);
      forward = omega arith;
      within = (ended image (get_or index i 0) (omega arith)).inside;
      joined = rw (here (get_or index i 0) k) (next_record image changes index n h l).is;
    }

    behind : {i from : ℕ} (end until : ℕ) → Stretched image changes (take n index) i from end until → until < n → get_or index until 0 ≡ end → end < length image
        → Stretched image changes (take n index) i from (end + length (field_bytes image end)) (until + 1)
    behind {from = from} end until s m f g =
        let stop : ℕ = end + length (field_bytes image end) in
        let rest : List ℕ = row_at image changes (drop (until + 1) (take n index)) in
        let next : bytes_at image changes (get_or index until 0) ≡ slice end stop image = rw f (sym (here end g)) in
        record {
          some = omega (arith, s.some);
          few = omega (arith, length-take n index);
          forward = omega (arith, s.forward);
          within = (ended image end (omega arith)).inside;
          joined = s.joined ∙ ap (λ (x : List ℕ). slice from end image ++ x) ((next_record image changes index n h m).is ∙ ap (λ (x : List ℕ). x ++ rest) next)
              ∙ sym (append_assoc (slice from end image) (slice end stop image) rest)
              ∙ ap (λ (x : List ℕ). x ++ rest) (slices from end stop image s.forward (omega arith));
        }

    pub one_more : {i from end until : ℕ} → Stretched image changes (take n index) i from end until → until < n
        → (next : ℕ) → next ≡ get_or index until 0 → next ≡ end → next < length image
        → Stretched image changes (take n index) i from (next + length (field_bytes image next)) (until + 1)
    one_more s m next a b g = rw b (behind _ _ s m (sym a ∙ b) (omega (arith, b)))
