-- The verdict on the start of an image and a row of entries: by its length, its overlaps and its number of records.
use mathlib.Core.Path.{◌≡◌, sym, ◌∙◌, ap}
use mathlib.Core.Bool.{true}
use mathlib.Core.List.{List, [], ◌∷◌, ◌++◌}
use Prim.Native.Nat.{ℕ, zero, suc, ◌+◌, ◌-◌, ◌≤◌, ◌<◌}
use native.Mathlib.Omega.{arith}
use borrow.Author.Tests.{lt-leb}
use lib.ListN.{length, take, drop, length-append, length-reverse, length-drop, drop_of_length-le}
use Rattle.image.specs.Image.{defective, image_from, starts_right, image_of}
use Rattle.image.specs.Checking.{verdict_of, numbers_in}
use Rattle.registry.specs.declared.Defect.TheVariants.{TooLong, BadRecord, Crossing}
use Rattle.registry.specs.declared.Flaw.{Flaw}
use Rattle.std.specs.Prelude.{Some, Ok, Err}
use Rattle.image.proofs.Walk.{from_end, from-full}
use Rattle.rows.specs.Entry.{Entry, row_of}
use Rattle.rows.specs.Good.{AllGood, good-cons}
use Rattle.fields.proofs.Starts.{starts-field}
use Rattle.rows.proofs.Images.{length_of, image_of_lem}
use Rattle.overlaps.specs.Overlaps.{AllPassed, Overlaps}

-- a row of some entries is not empty
row-some : (es : List Entry) → AllGood es → 0 < length es → 0 < length (row_of es)
unfolding row_of
row-some [] k h = absurd (omega arith)
row-some (e ∷ es) (good-cons x k) h =
    omega (arith, (starts-field e.bytes x.tag x.contents [] x.head).long, length-append e.bytes (row_of es))

good-drop : (n : ℕ) (es : List Entry) → AllGood es → AllGood (drop n es)
good-drop zero es k = k
good-drop (suc n) [] k = k
good-drop (suc n) (e ∷ es) (good-cons x k) = good-drop n es k

module _ (image : List ℕ) (es : List Entry) (s : starts_right image ≡ true) (size : ℕ) (z : size ≡ 4 + length (row_of es)) where
  pub too_long : 262144 < size → (f : Flaw) → f ≡ record { defect = TooLong; place = 0 } → numbers_in (Err f) ≡ verdict_of (image_of (take 4 image ++ row_of es))
  unfolding image_of
  too_long h f k = rw (k, length_of image (row_of es) s, lt-leb (4 + length (row_of es)) 262144 (omega arith))

  module _ (h : size ≤ 262144) (k : AllGood es) (n few : ℕ) (count : length es ≡ n) where
    reads : image_of (take 4 image ++ row_of es) ≡ image_from 4096 [] (row_of es)
    reads = image_of_lem image (row_of es) s (omega arith)

    pub overlapping : (k₀ : ℕ) → Overlaps es few (Some k₀) → (f : Flaw) → f ≡ record { defect = Crossing; place = k₀ } → numbers_in (Err f) ≡ verdict_of (image_of (take 4 image ++ row_of es))
    overlapping k₀ o f g = rw g (sym (ap verdict_of (reads ∙ o.1)))

    pub too_many : AllPassed es few → few ≡ 4096 → 4096 < n → (x : Flaw) → x ≡ record { defect = BadRecord; place = 4096 }
        → numbers_in (Err x) ≡ verdict_of (image_of (take 4 image ++ row_of es))
    too_many a f m x y =
        let d : 4096 - few ≡ 0 = omega arith in
        let g : 0 < length (row_of (drop few es)) = row-some (drop few es) (good-drop few es k) (omega (arith, length-drop few es)) in
        let e : image_from 0 a.earlier (row_of (drop few es)) ≡ image_from 4096 [] (row_of es) = rw d at a.rest in
        rw y (sym (ap verdict_of (reads ∙ sym e ∙ from-full a.earlier (row_of (drop few es)) g ∙ ap (defective 3) (a.counted ∙ f))))

    pub no-defect : AllPassed es few → few ≡ n → Ok n ≡ verdict_of (image_of (take 4 image ++ row_of es))
    unfolding row_of
    no-defect a f =
        let d : drop few es ≡ [] = drop_of_length-le es {i = few} (omega arith) in
        let e : image_from (4096 - few) a.earlier [] ≡ image_from 4096 [] (row_of es) = rw d at a.rest in
        sym (ap verdict_of (reads ∙ sym e ∙ from_end a.earlier (4096 - few)) ∙ rw (length-reverse a.earlier, a.counted, f))
