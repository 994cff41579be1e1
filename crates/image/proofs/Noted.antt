-- The index: where the records so far start, what one more record adds, and what is promised at the end.
use mathlib.Core.Path.{◌≡◌, refl, sym, ◌∙◌, ap}
use mathlib.Core.Bool.{Bool, true, false}
use mathlib.Core.List.{List, []}
use Prim.Native.Nat.{ℕ, ◌+◌, ◌≤◌, ◌<◌}
use borrow.Author.Tests.{eqb-true, eqb-false, le-leb, lt-leb}
use native.Mathlib.Omega.{arith}
use native.Mathlib.Numerals.{add-one}
use lib.Dec.{eqb}
use lib.ListN.{length, drop, get_or, set, length-set}
use lib.Seq.{get_or-set_same, get_or-set_other}
use Rattle.fields.specs.Positions.{field_at, behind, passed}
use Rattle.fields.specs.Heads.{passed-next}
use Rattle.image.specs.Image.{image_from, starts_right, image_of}
use Rattle.image.specs.Checking.{verdict_of, numbers_in}
use Rattle.image.specs.Entries.{start_of}
use Rattle.image.specs.Index.{Walking, Indexing}
use Rattle.std.specs.Prelude.{Result, Ok, Err}
use Rattle.registry.specs.declared.Defect.{Defect}
use Rattle.registry.specs.declared.Defect.TheVariants.{TooLong, BadStart}
use Rattle.registry.specs.declared.Flaw.{Flaw}
use Rattle.registry.specs.Defects.{defect_number}

-- the first `count` starts of the records from a position on, and the position of the record after them
pub record Noted (s : List ℕ) (from : ℕ) (starts : List ℕ) (count at : ℕ) : Type 0 where
  pub full : length starts ≡ 4096
  pub noted : (i : ℕ) → i < count → get_or starts i 0 ≡ passed s i from (length s)
  pub here : at ≡ passed s count from (length s)

pub start-next : (s : List ℕ) (i : ℕ) → start_of s (i + 1) ≡ behind (field_at s (start_of s i) (length s)) (start_of s i)
unfolding start_of
start-next s i = rw (add-one i) (passed-next s i 4 (length s))

module _ (s : List ℕ) (from : ℕ) (starts : List ℕ) where
  pub note_none : length starts ≡ 4096 → Noted s from starts 0 from
  unfolding passed
  note_none h = record { full = h; noted = λ i k. absurd (omega (arith, k)); here = refl }

  pub note_next : (count at to : ℕ) → Noted s from starts count at → count < 4096 → to ≡ behind (field_at s at (length s)) at
      → Noted s from (set starts count at) (count + 1) to
  note_next count at to w h e = record {
    full = length-set starts count at ∙ w.full;
    noted = λ i k. by_number i k (eqb i count) refl;
    here = e ∙ ap (λ (x : ℕ). behind (field_at s x (length s)) x) w.here ∙ rw (add-one count) (sym (passed-next s count from (length s)));
  }
    where
      by_number : (i : ℕ) → i < count + 1 → (t : Bool) → eqb i count ≡ t → get_or (set starts count at) i 0 ≡ passed s i from (length s)
      by_number i k true x = rw (eqb-true i count x, get_or-set_same starts count at 0 (rw w.full h)) w.here
      by_number i k false x = get_or-set_other starts count i at 0 (eqb-false i count x) ∙ w.noted i (omega (arith, eqb-false i count x))

  pub note_sound : (count at : ℕ) → Noted s from starts count at → Ok count ≡ verdict_of (image_from 4096 [] (drop from s)) → Walking s from starts (Ok count)
  note_sound count at w e = record {
    verdict = e;
    full = w.full;
    start = λ n f. let g : n ≡ count = cc in λ i k. w.noted i (omega (arith, k));
  }

  pub note_defective : (d : Defect) (n count at : ℕ) → Noted s from starts count at → Err (defect_number d, n) ≡ verdict_of (image_from 4096 [] (drop from s))
      → (f : Flaw) → f ≡ record { defect = d; place = n } → Walking s from starts (Err f)
  note_defective d n count at w e f k =
      rw k (record { verdict = e; full = w.full; start = λ m g. let z : ◌≡◌ {A = ℕ} 0 1 = cc in absurd (omega arith) })

-- The index

module _ (s starts : List ℕ) where
  index_defective : (f : Flaw) → numbers_in (Err f) ≡ verdict_of (image_of s) → Indexing s starts (Err f)
  index_defective f e = record { verdict = e; indexed = λ m g. let z : ◌≡◌ {A = ℕ} 0 1 = cc in absurd (omega arith) }

  pub index_long : 262144 < length s → (f : Flaw) → f ≡ record { defect = TooLong; place = 0 } → Indexing s starts (Err f)
  unfolding image_of
  index_long h f k = index_defective f (rw (k, lt-leb _ _ h))

  module _ (h : length s ≤ 262144) where
    pub index_wrong : starts_right s ≡ false → (f : Flaw) → f ≡ record { defect = BadStart; place = 0 } → Indexing s starts (Err f)
    unfolding image_of
    index_wrong e f k = index_defective f (rw (k, le-leb _ _ h, e))

    pub index_walked : starts_right s ≡ true → (r : Result ℕ Flaw) → Walking s 4 starts r → Indexing s starts r
    unfolding image_of start_of
    index_walked e r w =
        let v : numbers_in r ≡ verdict_of (image_of s) = w.verdict ∙ rw (le-leb _ _ h, e) in
        record { verdict = v; indexed = λ count f. record { sound = sym v ∙ ap numbers_in f; full = w.full; start = w.start count f } }
