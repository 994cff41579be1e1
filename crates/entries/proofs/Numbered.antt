-- The records of a sound image one after another: a reader that has passed n fields stands at record n, since what is left of the image
-- after each record is sound too (`Passed`), and finds the field of that record there (`stands_here`).
use mathlib.Core.Path.{◌≡◌, refl, sym, ◌∙◌, ap}
use mathlib.Core.List.{List, [], ◌∷◌, ◌++◌, reverse, reverse-cons}
use Prim.Native.Nat.{ℕ, zero, suc, ◌+◌, ◌-◌, ◌≤◌, ◌<◌}
use native.Mathlib.Omega.{arith}
use native.Mathlib.Nat.{le_refl}
use lib.ListN.{length, take, drop, get_or, length-reverse}
use lib.Seq.{slice, take-length, take-take, take_at, drop-cons, get_or-take, get_or_at}
use Rattle.std.specs.Prelude.{Option, Some, None}
use Rattle.fields.specs.Field.{Head, field, short, head_of}
use Rattle.fields.specs.Positions.{field_at, field_of, head_at, FieldInside, behind, passed}
use Rattle.fields.specs.Heads.{head-slice, field-inside}
use Rattle.fields.specs.declared.Field.{Field}
use Rattle.records.specs.Record.{Record}
use Rattle.records.specs.Judge.{Judged, bad, good, judge, judge_alone}
use Rattle.records.proofs.Accepted.{Accepted, alone-good, overlap_good}
use Rattle.image.specs.Image.{Image, sound, defective, next_of, after_judged, after_next, image_from, image_of}
use Rattle.image.specs.Part.{records_of}
use Rattle.image.specs.Entries.{start_of}
use Rattle.image.proofs.Walk.{start-length}
use Rattle.image.proofs.Soundness.{not_sound, opens}

-- what a sound image has at a position where records are still to come
pub record Ahead (n : ℕ) (earlier : List Record) (l : List ℕ) (records : List Record) : Type 0 where
  pub tag : ℕ
  pub contents : List ℕ
  pub rest : List ℕ
  pub r : Record
  pub head : head_of l ≡ field tag contents rest
  pub judged : judge earlier tag contents ≡ good r
  pub onward : image_from (n - 1) (r ∷ earlier) rest ≡ sound records

same_length : (a b : List Record) → sound (reverse a) ≡ sound b → length a ≡ length b
same_length a b e = let f : reverse a ≡ b = cc in sym (length-reverse a) ∙ ap length f

ahead : (n : ℕ) (earlier : List Record) (l : List ℕ) (records : List Record) → length earlier < length records
    → image_from n earlier l ≡ sound records → Ahead n earlier l records
unfolding image_from
ahead zero earlier [] records h e = absurd (omega (arith, same_length earlier records e))
ahead zero earlier (b ∷ l) records h e = absurd (not_sound _ _ records e)
ahead (suc n) earlier [] records h e = absurd (omega (arith, same_length earlier records e))
ahead (suc n) earlier (b ∷ l) records h e = by-head (head_of (b ∷ l)) refl e
  where
    by-judged : (tag : ℕ) (contents rest : List ℕ) (j : Judged) → head_of (b ∷ l) ≡ field tag contents rest → judge earlier tag contents ≡ j
        → after_next earlier (after_judged j rest) (λ r left. image_from n (r ∷ earlier) left) ≡ sound records → Ahead (suc n) earlier (b ∷ l) records
    by-judged tag contents rest (bad d) x y z = absurd (not_sound _ _ records z)
    by-judged tag contents rest (good r) x y z =
        let k : suc n - 1 ≡ n = omega arith in
        record { tag = tag; contents = contents; rest = rest; r = r; head = x; judged = y; onward = rw k z }

    by-head : (h : Head) → head_of (b ∷ l) ≡ h → after_next earlier (next_of earlier h) (λ r left. image_from n (r ∷ earlier) left) ≡ sound records
        → Ahead (suc n) earlier (b ∷ l) records
    by-head short x z = absurd (not_sound _ _ records z)
    by-head (field tag contents rest) x z = by-judged tag contents rest (judge earlier tag contents) x refl z

take_own : (a records : List Record) → sound (reverse a) ≡ sound records → take (length a) records ≡ reverse a
take_own a records e =
    let f : reverse a ≡ records = cc in
    rw (← f, ← length-reverse a) (take-length (reverse a))

-- the records so far are the first ones
prefix : (n : ℕ) (earlier : List Record) (l : List ℕ) (records : List Record) → image_from n earlier l ≡ sound records
    → take (length earlier) records ≡ reverse earlier
unfolding image_from
prefix zero earlier [] records e = take_own earlier records e
prefix zero earlier (b ∷ l) records e = absurd (not_sound _ _ records e)
prefix (suc n) earlier [] records e = take_own earlier records e
prefix (suc n) earlier (b ∷ l) records e = by-head (head_of (b ∷ l)) e (λ r rest. prefix n (r ∷ earlier) rest records)
  where
    by-judged : (j : Judged) (rest : List ℕ) → after_next earlier (after_judged j rest) (λ r left. image_from n (r ∷ earlier) left) ≡ sound records
        → ((r : Record) (left : List ℕ) → image_from n (r ∷ earlier) left ≡ sound records → take (length (r ∷ earlier)) records ≡ reverse (r ∷ earlier))
        → take (length earlier) records ≡ reverse earlier
    by-judged (bad d) rest z k = absurd (not_sound _ _ records z)
    by-judged (good r) rest z k =
        sym (take-take (length earlier) (suc (length earlier)) records (omega arith))
        ∙ rw (k r rest z, reverse-cons r earlier) (take_at (reverse earlier) (r ∷ []) (length earlier) (length-reverse earlier))

    by-head : (h : Head) → after_next earlier (next_of earlier h) (λ r left. image_from n (r ∷ earlier) left) ≡ sound records
        → ((r : Record) (left : List ℕ) → image_from n (r ∷ earlier) left ≡ sound records → take (length (r ∷ earlier)) records ≡ reverse (r ∷ earlier))
        → take (length earlier) records ≡ reverse earlier
    by-head short z k = absurd (not_sound _ _ records z)
    by-head (field tag contents rest) z k = by-judged (judge earlier tag contents) rest z k

module _ (n : ℕ) (earlier : List Record) (l : List ℕ) (records : List Record) (h : length earlier < length records)
    (e : image_from n earlier l ≡ sound records) where
  pub next-ahead : Ahead n earlier l records
  next-ahead = ahead n earlier l records h e

  pub numbered : drop (length earlier) records ≡ next-ahead.r ∷ drop (suc (length earlier)) records
  numbered =
      let a = next-ahead in
      let f : take (suc (length earlier)) records ≡ reverse earlier ++ (a.r ∷ []) = prefix (n - 1) (a.r ∷ earlier) a.rest records a.onward ∙ reverse-cons a.r earlier in
      let g : get_or records (length earlier) a.r ≡ a.r =
      sym (get_or-take (suc (length earlier)) records (length earlier) a.r (omega arith))
      ∙ rw f (get_or_at (reverse earlier) a.r [] a.r (length earlier) (length-reverse earlier)) in
      drop-cons records (length earlier) a.r h ∙ ap (λ (x : Record). x ∷ drop (suc (length earlier)) records) g

-- The field at the position of record i, which was accepted after the earlier ones.
pub record Stood (s : List ℕ) (i at : ℕ) : Type 0 where
  pub tag : ℕ
  pub start : ℕ
  pub end : ℕ
  pub r : Record
  pub earlier : List Record
  pub field-here : field_at s at (length s) ≡ Some (field_of tag start end)
  pub listed : drop i (records_of (image_of s)) ≡ r ∷ drop (i + 1) (records_of (image_of s))
  pub accepted : Accepted earlier tag (slice start end s) r
  pub inside : FieldInside at (length s) start end

-- After i records of a sound image the next one starts at a position.
record Passed (s : List ℕ) (i at : ℕ) : Type 0 where
  earlier : List Record
  counted : length earlier ≡ i
  inside : at ≤ length s
  left : image_from (4096 - i) earlier (slice at (length s) s) ≡ image_of s

-- an image with a record is sound
is-sound : (i : Image) (n : ℕ) → n < length (records_of i) → i ≡ sound (records_of i)
is-sound (sound records) n h = refl
is-sound (defective d p) n h = absurd (omega (arith, h))

sound-start : (s : List ℕ) (records : List Record) → image_of s ≡ sound records → (4 ≤ length s) × (image_from 4096 [] (drop 4 s) ≡ image_of s)
sound-start s records e =
    let o = opens s records e in
    (start-length s o.started, o.read ∙ sym e)

module _ (s : List ℕ) (n : ℕ) (h : n < length (records_of (image_of s))) where
  whole-image : image_of s ≡ sound (records_of (image_of s))
  whole-image = is-sound (image_of s) n h

  pass-none : Passed s 0 4
  pass-none =
      let a = sound-start s (records_of (image_of s)) whole-image in
      record { earlier = []; counted = refl; inside = a.0; left = rw (take-length s) a.1 }

  module _ (i at : ℕ) (w : Passed s i at) (k : i ≤ n) where
    fewer : length w.earlier < length (records_of (image_of s))
    fewer = omega (arith, w.counted)

    sound-left : image_from (4096 - i) w.earlier (slice at (length s) s) ≡ sound (records_of (image_of s))
    sound-left = w.left ∙ whole-image

    to_come : Ahead (4096 - i) w.earlier (slice at (length s) s) (records_of (image_of s))
    to_come = next-ahead (4096 - i) w.earlier (slice at (length s) s) (records_of (image_of s)) fewer sound-left

    head-here : head_at s (length s) (field_at s at (length s)) ≡ field to_come.tag to_come.contents to_come.rest
    head-here = head-slice s at (length s) w.inside (le_refl _) ∙ to_come.head

    pass-short : field_at s at (length s) ≡ None → ⊥
    pass-short e =
        let x : short ≡ field to_come.tag to_come.contents to_come.rest = rw e at head-here in
        let z : ◌≡◌ {A = ℕ} 0 1 = cc in omega arith

    listed_here : drop i (records_of (image_of s)) ≡ to_come.r ∷ drop (i + 1) (records_of (image_of s))
    unfolding to_come
    listed_here =
        let c : suc (length w.earlier) ≡ i + 1 = omega (arith, w.counted) in
        sym (ap (λ (m : ℕ). drop m (records_of (image_of s))) w.counted)
        ∙ numbered (4096 - i) w.earlier (slice at (length s) s) (records_of (image_of s)) fewer sound-left
        ∙ ap (λ (m : ℕ). to_come.r ∷ drop m (records_of (image_of s))) c

    module _ (f : Field) (e : field_at s at (length s) ≡ Some f) where
      same_head : field f.tag (slice f.start f.end s) (slice f.end (length s) s) ≡ field to_come.tag to_come.contents to_come.rest
      same_head = rw e at head-here

      pass-inside : FieldInside at (length s) f.start f.end
      pass-inside = field-inside s at (length s) f e

      pass-next : Passed s (i + 1) f.end
      pass-next =
          let y = same_head in
          let x : slice f.end (length s) s ≡ to_come.rest = cc in
          let z : 4096 - (i + 1) ≡ 4096 - i - 1 = omega arith in
          record {
            earlier = to_come.r ∷ w.earlier;
            counted = rw w.counted (omega arith);
            inside = pass-inside.within;
            left = rw (x, z) to_come.onward ∙ sym whole-image;
          }

      -- the record here was accepted
      accepted-here : Accepted w.earlier f.tag (slice f.start f.end s) to_come.r
      accepted-here =
          let y = same_head in
          let u : f.tag ≡ to_come.tag = cc in
          let v : slice f.start f.end s ≡ to_come.contents = cc in
          rw (u, v) (alone-good w.earlier to_come.tag to_come.contents to_come.r
          (overlap_good w.earlier (judge_alone w.earlier to_come.tag to_come.contents) to_come.r to_come.judged).0)

      stood : Stood s i at
      stood = record {
        tag = f.tag;
        start = f.start;
        end = f.end;
        r = to_come.r;
        earlier = w.earlier;
        field-here = e;
        listed = listed_here;
        accepted = accepted-here;
        inside = pass-inside;
      }

    by_field : (f : Option Field) → field_at s at (length s) ≡ f → Stood s i at
    by_field None e = absurd (pass-short e)
    by_field (Some f) e = stood f e

  passes : (k i at : ℕ) → i + k ≡ n → Passed s i at → Passed s n (passed s k at (length s))
  unfolding passed
  passes zero i at e w =
      let d : i ≡ n = omega arith in
      rw d at w
  passes (suc k) i at e w = by_field (field_at s at (length s)) refl (λ b. passes k (i + 1) b (omega arith))
    where
      by_field : (f : Option Field) → field_at s at (length s) ≡ f → ((b : ℕ) → Passed s (i + 1) b → Passed s n (passed s k b (length s))) → Passed s n (passed s k (behind f at) (length s))
      by_field None g next = absurd (pass-short i at w (omega arith) g)
      by_field (Some f) g next = next f.end (pass-next i at w (omega arith) f g)

  pub stands_here : Stood s n (start_of s n)
  unfolding start_of
  stands_here = let w = passes n 0 4 (omega arith) pass-none in
      by_field n (start_of s n) w (le_refl n) (field_at s (start_of s n) (length s)) refl
