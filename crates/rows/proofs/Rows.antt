-- A row of entries as an image reads it, and the entries of a sound row.
use mathlib.Core.Path.{◌≡◌, refl, sym, ◌∙◌, ap}
use mathlib.Core.List.{List, [], ◌∷◌, ◌++◌, reverse_aux}
use Prim.Native.Nat.{ℕ, zero, suc}
use native.Mathlib.Omega.{arith}
use lib.ListN.{length, take, drop}
use lib.Seq.{take_at, drop_at}
use Rattle.fields.specs.Field.{Head, field, short, head_of, size_of}
use Rattle.records.specs.Record.{Record}
use Rattle.records.specs.Judge.{Judged, bad, good, judge}
use Rattle.image.specs.Image.{sound, defective, after_judged, next_of, after_next, image_from}
use Rattle.image.proofs.Soundness.{not_sound}
use Rattle.rows.specs.Entry.{Entry, entries_of, parsed_of, row_of}
use Rattle.rows.specs.Good.{GoodEntry, AllGood, good_nil, good-cons}
use Rattle.fields.proofs.Starts.{starts-field, no_field}
use Rattle.records.proofs.Judging.{judged-alone, judged-same}

-- One step of the check over a row that starts with a whole field

module _ (earlier : List Record) (tag : ℕ) (contents rest : List ℕ) where
  pub image-step : (n : ℕ) (s : List ℕ) → head_of s ≡ field tag contents rest
      → image_from (suc n) earlier s ≡ after_next earlier (after_judged (judge earlier tag contents) rest) (λ r t. image_from n (r ∷ earlier) t)
  unfolding image_from head_of
  image-step n [] e = absurd (no_field tag contents rest e)
  image-step n (b ∷ bs) e = ap (λ (h : Head). after_next earlier (next_of earlier h) (λ r t. image_from n (r ∷ earlier) t)) e

  pub image-full : (s : List ℕ) → head_of s ≡ field tag contents rest → image_from zero earlier s ≡ defective 3 (length earlier)
  unfolding image_from head_of
  image-full [] e = absurd (no_field tag contents rest e)
  image-full (b ∷ bs) e = refl

-- An entry at the front of a row

module _ (e : Entry) (k : GoodEntry e) (rest : List ℕ) where
  pub entry-head : head_of (e.bytes ++ rest) ≡ field k.tag k.contents rest
  entry-head = (starts-field e.bytes k.tag k.contents [] k.head).followed rest

  entry-size : length e.bytes ≡ size_of (e.bytes ++ rest)
  entry-size =
      let x = starts-field e.bytes k.tag k.contents [] k.head in
      let y = starts-field (e.bytes ++ rest) k.tag k.contents rest entry-head in
      omega (arith, x.long, y.size)

  pub entry-taken : take (size_of (e.bytes ++ rest)) (e.bytes ++ rest) ≡ e.bytes
  entry-taken = take_at e.bytes rest _ entry-size

  pub entry-dropped : drop (size_of (e.bytes ++ rest)) (e.bytes ++ rest) ≡ rest
  entry-dropped = drop_at e.bytes rest _ entry-size

-- the entries of a row of entries are these
pub entries-row : (es : List Entry) → AllGood es → entries_of (parsed_of es) (row_of es) ≡ es
unfolding entries_of row_of
entries-row [] k = refl
entries-row (e ∷ es) (good-cons x k) =
    rw (entry-taken e x (row_of es), entry-dropped e x (row_of es)) (ap (λ (l : List Entry). e ∷ l) (entries-row es k))

-- where a row of entries is accepted, its records are those of the entries
pub accepted-row : (n : ℕ) (earlier records : List Record) (es : List Entry) → AllGood es
    → image_from n earlier (row_of es) ≡ sound records → records ≡ reverse_aux earlier (parsed_of es)
unfolding row_of image_from
accepted-row zero earlier records [] k e = cc
accepted-row (suc n) earlier records [] k e = cc
accepted-row zero earlier records (a ∷ es) (good-cons x k) e =
    absurd (not_sound _ _ records (sym (image-full earlier x.tag x.contents (row_of es) (a.bytes ++ row_of es) (entry-head a x (row_of es))) ∙ e))
accepted-row (suc n) earlier records (a ∷ es) (good-cons x k) e =
    by-judged (judge earlier x.tag x.contents) refl
    (sym (image-step earlier x.tag x.contents (row_of es) n (a.bytes ++ row_of es) (entry-head a x (row_of es))) ∙ e)
    (λ q z. accepted-row n (q ∷ earlier) records es k z)
  where
    by-judged : (j : Judged) → judge earlier x.tag x.contents ≡ j
        → after_next earlier (after_judged j (row_of es)) (λ r t. image_from n (r ∷ earlier) t) ≡ sound records
        → ((q : Record) → image_from n (q ∷ earlier) (row_of es) ≡ sound records → records ≡ reverse_aux (q ∷ earlier) (parsed_of es))
        → records ≡ reverse_aux earlier (a.parsed ∷ parsed_of es)
    by-judged (bad d) y z onward = absurd (not_sound _ _ records z)
    by-judged (good q) y z onward =
        let f : q ≡ a.parsed = judged-same earlier x.tag x.contents q y [] a.parsed x.alone in
        rw (← f) (onward q z)

pub parsed-entries : (records : List Record) (s : List ℕ) → parsed_of (entries_of records s) ≡ records
unfolding entries_of
parsed-entries [] s = refl
parsed-entries (r ∷ records) s = ap (λ (l : List Record). r ∷ l) (parsed-entries records (drop (size_of s) s))

-- a sound row: the records in it, whose entries stand and are the row
pub record Reads (s : List ℕ) (earlier records : List Record) : Type 0 where
  pub later : List Record
  pub all : records ≡ reverse_aux earlier later
  pub stand : AllGood (entries_of later s)
  pub row : row_of (entries_of later s) ≡ s

pub reads : (n : ℕ) (earlier records : List Record) (s : List ℕ) → image_from n earlier s ≡ sound records → Reads s earlier records
unfolding image_from entries_of row_of
reads zero earlier records [] e = record { later = []; all = cc; stand = good_nil; row = refl }
reads (suc n) earlier records [] e = record { later = []; all = cc; stand = good_nil; row = refl }
reads zero earlier records (b ∷ bs) e = absurd (not_sound _ _ records e)
reads (suc n) earlier records (b ∷ bs) e = by-head (head_of (b ∷ bs)) refl e (λ q rest z. reads n (q ∷ earlier) records rest z)
  where
    Onward : Type 0
    Onward = (q : Record) (rest : List ℕ) → image_from n (q ∷ earlier) rest ≡ sound records → Reads rest (q ∷ earlier) records

    by-judged : (tag : ℕ) (contents rest : List ℕ) (j : Judged) → head_of (b ∷ bs) ≡ field tag contents rest → judge earlier tag contents ≡ j
        → after_next earlier (after_judged j rest) (λ r t. image_from n (r ∷ earlier) t) ≡ sound records → Onward → Reads (b ∷ bs) earlier records
    by-judged tag contents rest (bad d) h y z onward = absurd (not_sound _ _ records z)
    by-judged tag contents rest (good q) h y z onward =
        let x = starts-field (b ∷ bs) tag contents rest h in
        let w = onward q rest z in
        record {
          later = q ∷ w.later;
          all = w.all;
          stand = rw x.rest-is
              (good-cons (record { tag = tag; contents = contents; head = x.alone; alone = judged-alone earlier tag contents q y }) w.stand);
          row = rw (x.rest-is, w.row) x.split;
        }

    by-head : (h : Head) → head_of (b ∷ bs) ≡ h
        → after_next earlier (next_of earlier h) (λ r t. image_from n (r ∷ earlier) t) ≡ sound records → Onward → Reads (b ∷ bs) earlier records
    by-head short h z onward = absurd (not_sound _ _ records z)
    by-head (field tag contents rest) h z onward = by-judged tag contents rest (judge earlier tag contents) h refl z onward
