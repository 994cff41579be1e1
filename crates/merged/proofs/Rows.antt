-- The rows of the starts of an index, and the entries of an image by their starts.
use mathlib.Core.Path.{◌≡◌, refl, sym, ◌∙◌, ap, subst}
use mathlib.Core.Bool.{Bool, true, false, cond}
use mathlib.Core.List.{List, [], ◌∷◌, ◌++◌, map, append_assoc, append-nil}
use Prim.Native.Nat.{ℕ, zero, suc, ◌+◌, ◌-◌, ◌≤◌, ◌<◌}
use native.Mathlib.Omega.{arith}
use native.Mathlib.Numerals.{add-one}
use borrow.Author.Tests.{lt-ltb}
use lib.Dec.{ltb}
use lib.ListN.{length, get_or, take, drop, length-append, length-take, length-drop, take-append-drop, drop_of_length-le}
use lib.Seq.{slice, take-suc, drop-cons, length-slice, drop-drop, length-take-le}
use Rattle.std.specs.Prelude.{Option, Some, None}
use Rattle.fields.specs.Field.{field, head_of, size_of}
use Rattle.fields.specs.Positions.{field_at, behind, passed}
use Rattle.fields.specs.declared.Field.{Field}
use Rattle.records.specs.Record.{Record}
use Rattle.image.specs.Image.{image_of}
use Rattle.image.specs.Part.{records_of}
use Rattle.image.specs.Entries.{start_of}
use Rattle.image.specs.Index.{Indexed}
use Rattle.image.proofs.Soundness.{is-sound, counted, opens, few-records, few_bytes}
use Rattle.image.proofs.Walk.{start-length}
use Rattle.image.proofs.Noted.{start-next}
use Rattle.rows.specs.Entry.{Entry, entry, entries_of, row_of}
use Rattle.rows.proofs.Images.{entries-good}
use Rattle.rows.specs.Good.{GoodEntry, AllGood, good-cons}
use Rattle.fields.proofs.Starts.{starts-field, no_field}
use Rattle.merged.specs.Held.{field_bytes, bytes_at, parsed_from, entry_of, entries_at}
use Rattle.merged.proofs.Fields.{bytes_inside, bytes_whole, bytes-short, head-short, head-whole}

-- Rows

map_append : {A B : Type 0} (f : A → B) (a b : List A) → map f (a ++ b) ≡ map f a ++ map f b
map_append f [] b = refl
map_append {B = B} f (x ∷ a) b = ap (λ (l : List B). f x ∷ l) (map_append f a b)

pub entries_append : (image changes a b : List ℕ) → entries_at image changes (a ++ b) ≡ entries_at image changes a ++ entries_at image changes b
entries_append image changes a b = map_append (λ (p : ℕ). entry_of (bytes_at image changes p)) a b

row_append : (a b : List Entry) → row_of (a ++ b) ≡ row_of a ++ row_of b
unfolding row_of
row_append [] b = refl
row_append (e ∷ a) b = ap (λ (l : List ℕ). e.bytes ++ l) (row_append a b) ∙ sym (append_assoc e.bytes (row_of a) (row_of b))

module _ (image changes index : List ℕ) where
  pub entries_next : (i : ℕ) → i < length index
      → entries_at image changes (take (i + 1) index) ≡ entries_at image changes (take i index) ++ (entry_of (bytes_at image changes (get_or index i 0)) ∷ [])
  entries_next i h = rw (add-one i, take-suc index i 0 h) (entries_append image changes (take i index) (get_or index i 0 ∷ []))

  pub row_next : (i : ℕ) → i < length index
      → row_of (entries_at image changes (take (i + 1) index)) ≡ row_of (entries_at image changes (take i index)) ++ bytes_at image changes (get_or index i 0)
  unfolding row_of
  row_next i h =
      ap row_of (entries_next i h) ∙ row_append (entries_at image changes (take i index)) (entry_of (bytes_at image changes (get_or index i 0)) ∷ [])
      ∙ ap (λ (l : List ℕ). row_of (entries_at image changes (take i index)) ++ l) (append-nil (bytes_at image changes (get_or index i 0)))

  pub size-next : (i : ℕ) → i < length index → (size n : ℕ) → size ≡ length (row_of (entries_at image changes (take i index))) → n ≡ length (bytes_at image changes (get_or index i 0))
      → size + n ≡ length (row_of (entries_at image changes (take (i + 1) index)))
  size-next i h size n e f =
      omega (arith, ap length (row_next i h), length-append (row_of (entries_at image changes (take i index))) (bytes_at image changes (get_or index i 0)))

-- a field is not longer than what holds it
field_bound : (s : List ℕ) (at : ℕ) (f : Option Field) → f ≡ field_at s at (length s) → length (field_bytes s at) ≤ length s
field_bound s at None e = rw (← bytes-short s at None e refl) (omega arith)
field_bound s at (Some f) e =
    let i = bytes_inside s at (Some f) e f refl in
    rw (← bytes_whole s at (Some f) e f refl) (omega (arith, length-take (f.end - at) (drop at s), length-drop at s))

pub bytes-bound : (image changes : List ℕ) (start : ℕ) → length image ≤ 262144 → length changes ≤ 262144 → length (bytes_at image changes start) ≤ 262144
unfolding bytes_at
bytes-bound image changes start h k = by_order (ltb start 262144)
  where
    by_order : (t : Bool) → length (cond t (field_bytes image start) (field_bytes changes (start - 262144))) ≤ 262144
    by_order true = omega (arith, field_bound image start (field_at image start (length image)) refl)
    by_order false = omega (arith, field_bound changes (start - 262144) (field_at changes (start - 262144) (length changes)) refl)

-- the bytes of a field that stands at a position
pub field-here : (s : List ℕ) (at tag : ℕ) (contents rest : List ℕ) → at ≤ length s → head_of (drop at s) ≡ field tag contents rest
    → field_bytes s at ≡ take (3 + length contents) (drop at s)
field-here s at tag contents rest h e = by_field (field_at s at (length s)) refl
  where
    by_field : (f : Option Field) → f ≡ field_at s at (length s) → field_bytes s at ≡ take (3 + length contents) (drop at s)
    by_field None x = absurd (no_field tag contents rest (sym (head-short s at None x h refl) ∙ e))
    by_field (Some f) x =
        let k : field f.tag (slice f.start f.end s) (drop f.end s) ≡ field tag contents rest = sym (head-whole s at (Some f) x f refl) ∙ e in
        let c : slice f.start f.end s ≡ contents = cc in
        let i = bytes_inside s at (Some f) x f refl in
        let n : f.end - at ≡ 3 + length contents = omega (arith, i.after, i.forward, ap length c, length-slice f.start f.end s i.within) in
        sym (bytes_whole s at (Some f) x f refl) ∙ rw n

-- The starts of an image's records

entry_again : (e : Entry) → GoodEntry e → entry_of e.bytes ≡ e
unfolding parsed_from
entry_again e k =
    let p : parsed_from e.bytes ≡ e.parsed = rw (k.head, k.alone) in
    ap (λ (r : Record). entry r e.bytes) p

-- after i records, which are noted, the next starts at `at`
record Passed (image : List ℕ) (records : List Record) (index : List ℕ) (i at : ℕ) : Type 0 where
  inside : at ≤ length image
  good : AllGood (entries_of (drop i records) (drop at image))
  noted : (changes : List ℕ) → entries_at image changes (take i index) ++ entries_of (drop i records) (drop at image) ≡ entries_of records (drop 4 image)

passed_start : (image : List ℕ) (records : List Record) (index : List ℕ) → 4 ≤ length image → AllGood (entries_of records (drop 4 image)) → Passed image records index 0 4
passed_start image records index h s = record { inside = h; good = s; noted = λ changes. refl }

module _ (image : List ℕ) (records : List Record) (index : List ℕ) (i at : ℕ) (m : Passed image records index i at)
    (h : i < length records) (k : i < length index) (small : length image ≤ 262144) (p : get_or index i 0 ≡ at) where
  abbrev r : Record
  r = get_or records i (parsed_from [])

  abbrev s : List ℕ
  s = drop at image

  abbrev here : Entry
  here = entry r (take (size_of s) s)

  rest-is : drop i records ≡ r ∷ drop (suc i) records
  rest-is = drop-cons records i (parsed_from []) h

  entries_are : entries_of (drop i records) s ≡ here ∷ entries_of (drop (suc i) records) (drop (size_of s) s)
  unfolding entries_of
  entries_are = rw rest-is

  first_good : AllGood (here ∷ entries_of (drop (suc i) records) (drop (size_of s) s)) → GoodEntry here
  first_good (good-cons x y) = x

  others_good : AllGood (here ∷ entries_of (drop (suc i) records) (drop (size_of s) s)) → AllGood (entries_of (drop (suc i) records) (drop (size_of s) s))
  others_good (good-cons x y) = y

  is-good : GoodEntry here
  is-good = first_good (rw entries_are at m.good)

  head-here : head_of s ≡ field is-good.tag is-good.contents (drop (size_of s) s)
  head-here =
      let x = (starts-field (take (size_of s) s) is-good.tag is-good.contents [] is-good.head).followed (drop (size_of s) s) in
      rw (take-append-drop (size_of s) s) at x

  bytes-here : field_bytes image at ≡ take (size_of s) s
  bytes-here =
      let x = starts-field s is-good.tag is-good.contents _ head-here in
      field-here image at is-good.tag is-good.contents _ m.inside head-here ∙ rw (← x.size)

  long-here : at + size_of s ≤ length image
  long-here =
      let x = starts-field s is-good.tag is-good.contents _ head-here in
      omega (arith, x.size, x.long, length-drop at image, m.inside)

  size-here : length (field_bytes image at) ≡ size_of s
  size-here = rw bytes-here (length-take-le (size_of s) s (omega (arith, long-here, length-drop at image)))

  start_fits : at < 262144
  start_fits =
      let x = starts-field s is-good.tag is-good.contents _ head-here in
      omega (arith, long-here, x.size)

  at-image : (changes : List ℕ) → bytes_at image changes at ≡ take (size_of s) s
  unfolding bytes_at
  at-image changes = rw (lt-ltb at 262144 start_fits) bytes-here

  passed-next : Passed image records index (i + 1) (at + length (field_bytes image at))
  passed-next =
      let d : drop (at + length (field_bytes image at)) image ≡ drop (size_of s) s = rw size-here (sym (drop-drop (size_of s) at image)) in
      record {
        inside = omega (arith, long-here, size-here);
        good = rw (add-one i, d) (others_good (rw entries_are at m.good));
        noted = λ changes. noted-next changes d;
      }
    where
      noted-next : (changes : List ℕ) → drop (at + length (field_bytes image at)) image ≡ drop (size_of s) s
          → entries_at image changes (take (i + 1) index) ++ entries_of (drop (i + 1) records) (drop (at + length (field_bytes image at)) image) ≡ entries_of records (drop 4 image)
      noted-next changes d =
          let b : bytes_at image changes at ≡ take (size_of s) s = at-image changes in
          let q : entry_of (bytes_at image changes at) ≡ here = rw b (entry_again here is-good) in
          let t : entries_at image changes (take (i + 1) index) ≡ entries_at image changes (take i index) ++ (here ∷ []) = entries_next image changes index i k ∙ rw (p, q) in
          rw (t, d, add-one i)
          (append_assoc (entries_at image changes (take i index)) (here ∷ []) (entries_of (drop (suc i) records) (drop (size_of s) s))
          ∙ rw (← entries_are) (m.noted changes))

passed-end : (image : List ℕ) (records : List Record) (index : List ℕ) (i at : ℕ) → Passed image records index i at → length records ≤ i
    → (changes : List ℕ) → entries_at image changes (take i index) ≡ entries_of records (drop 4 image)
unfolding entries_of
passed-end image records index i at m h changes =
    let z : drop i records ≡ [] = drop_of_length-le records {i = i} h in
    sym (append-nil (entries_at image changes (take i index))) ∙ (rw z at (m.noted changes))

-- the field behind the one at a position
behind-bytes : (s : List ℕ) (at : ℕ) (f : Option Field) → f ≡ field_at s at (length s) → behind f at ≡ at + length (field_bytes s at)
behind-bytes s at None e = rw (← bytes-short s at None e refl) (omega arith)
behind-bytes s at (Some f) e =
    let i = bytes_inside s at (Some f) e f refl in
    rw (← bytes_whole s at (Some f) e f refl) (omega (arith, i.after, i.forward, i.within, length-take (f.end - at) (drop at s), length-drop at s))

-- the index of a sound image holds its records
module _ (image starts : List ℕ) (count : ℕ) (x : Indexed image count starts) where
  abbrev records : List Record
  records = records_of (image_of image)

  first-start : start_of image 0 ≡ 4
  unfolding start_of passed
  first-start = refl

  all-passed : (i : ℕ) → i ≤ count → Passed image records starts i (start_of image i)
  all-passed zero h =
      let e = is-sound (image_of image) count x.sound in
      rw first-start (passed_start image records starts (start-length image (opens image records e).started) (entries-good image records e))
  all-passed (suc i) h =
      let o : i + 1 ≡ suc i = omega arith in
      let n : start_of image i + length (field_bytes image (start_of image i)) ≡ start_of image (i + 1) = sym (start-next image i ∙ behind-bytes image (start_of image i) _ refl) in
      let z = passed-next image records starts i (start_of image i) (all-passed i (omega arith)) (omega (arith, counted (image_of image) count x.sound))
      (omega (arith, x.full, few-records image count x.sound)) (few_bytes image count x.sound) (x.start i h) in
      subst (λ (j : ℕ). Passed image records starts j (start_of image j)) o (subst (λ (at : ℕ). Passed image records starts (i + 1) at) n z)

  pub index_entries : (changes : List ℕ) → entries_at image changes (take count starts) ≡ entries_of records (drop 4 image)
  index_entries changes =
      passed-end image records starts count (start_of image count) (all-passed count (omega arith)) (omega (arith, counted (image_of image) count x.sound)) changes
