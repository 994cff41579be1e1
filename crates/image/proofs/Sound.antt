-- The records of a sound image are accepted one after another: what reading it shows of defects 5, 6 and 7.
use Prim.Native.Nat.{ℕ, zero, suc}
use mathlib.Core.Bool.{not}
use mathlib.Core.Path.{◌≡◌, refl, sym, subst, ap, ◌∙◌}
use mathlib.Core.List.{List, [], ◌∷◌, reverse_aux}
use native.Mathlib.Omega.{arith}
use lib.Dec.{T}
use lib.ListN.{drop}
use Rattle.fields.specs.Field.{Head, field, short, head_of}
use Rattle.records.specs.Record.{Record, good_contents}
use Rattle.records.specs.Judge.{Judged, bad, good, in_order, crosses_any, judge_alone, judge}
use Rattle.records.proofs.Accepted.{alone-good, overlap_good}
use Rattle.image.specs.Image.{Next, stopped, taken, after_judged, next_of, after_next, sound, image_from, image_of}
use Rattle.image.proofs.Soundness.{opens}

-- a record without defects 5, 6 and 7 after the earlier ones, the latest first
pub record Accepted (earlier : List Record) (r : Record) : Type 0 where
  pub contents : T (good_contents r)
  pub ordered : T (in_order earlier r)
  pub apart : T (not (crosses_any earlier r))

-- the later records are accepted one after another
pub data Later : List Record → List Record → Type 0 where
  done : {earlier : List Record} → Later earlier []
  next : {earlier later : List Record} {r : Record} → Accepted earlier r → Later (r ∷ earlier) later → Later earlier (r ∷ later)

-- What reading a sound image shows of its records

of_head : (earlier : List Record) (h : Head) (r : Record) (rest : List ℕ) → next_of earlier h ≡ taken r rest → Accepted earlier r
of_head earlier short r rest e = absurd (let z : ◌≡◌ {A = ℕ} 0 1 = cc in omega arith)
of_head earlier (field tag contents left) r rest e = by-judged (judge earlier tag contents) refl e
  where
    by-judged : (j : Judged) → judge earlier tag contents ≡ j → after_judged j left ≡ taken r rest → Accepted earlier r
    by-judged (bad d) p k = absurd (let z : ◌≡◌ {A = ℕ} 0 1 = cc in omega arith)
    by-judged (good q) p k =
        let f : q ≡ r = cc in
        let o = overlap_good earlier (judge_alone earlier tag contents) r (p ∙ ap good f) in
        let a = alone-good earlier tag contents r o.0 in
        record { contents = rw a.good-contents tt; ordered = rw a.ordered tt; apart = rw o.1 tt }

abbrev Rest : List Record → List Record → Type 0
Rest earlier records = (later : List Record) × Later earlier later × (records ≡ reverse_aux earlier later)

rest_of : (n : ℕ) (earlier : List Record) (bytes : List ℕ) (records : List Record) → image_from n earlier bytes ≡ sound records → Rest earlier records
unfolding image_from
rest_of zero earlier [] records e = ([], done, let f : reverse_aux earlier [] ≡ records = cc in sym f)
rest_of zero earlier (b ∷ bs) records e = absurd (let z : ◌≡◌ {A = ℕ} 0 1 = cc in omega arith)
rest_of (suc n) earlier [] records e = ([], done, let f : reverse_aux earlier [] ≡ records = cc in sym f)
rest_of (suc n) earlier (b ∷ bs) records e =
    by_next (next_of earlier (head_of (b ∷ bs))) refl e (λ r rest k. rest_of n (r ∷ earlier) rest records k)
  where
    by_next :
        (x : Next) → next_of earlier (head_of (b ∷ bs)) ≡ x
        → after_next earlier x (λ r rest. image_from n (r ∷ earlier) rest) ≡ sound records
        → ((r : Record) (rest : List ℕ) → image_from n (r ∷ earlier) rest ≡ sound records → Rest (r ∷ earlier) records)
        → Rest earlier records
    by_next (stopped d) p k onward = absurd (let z : ◌≡◌ {A = ℕ} 0 1 = cc in omega arith)
    by_next (taken r rest) p k onward =
        let s = onward r rest k in
        (r ∷ s.0, next (of_head earlier (head_of (b ∷ bs)) r rest p) s.1, s.2)

pub records-later : (image : List ℕ) (records : List Record) → image_of image ≡ sound records → Later [] records
records-later image records e =
    let s = rest_of 4096 [] (drop 4 image) records (opens image records e).read in
    subst (λ (rs : List Record). Later [] rs) (sym s.2) s.1
