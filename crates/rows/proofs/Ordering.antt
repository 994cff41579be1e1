-- The records of a sound row are sorted; a row of sorted entries has no defect but 3 (too many) and 7.
use mathlib.Core.Path.{◌≡◌, refl}
use mathlib.Core.Bool.{Bool, true, false, cond}
use mathlib.Core.List.{List, [], ◌∷◌, ◌++◌}
use Prim.Native.Nat.{ℕ, zero, suc}
use lib.Dec.{leb}
use lib.ListN.{length, take}
use Rattle.octets.specs.Lists.{contains}
use Rattle.octets.proofs.Tests.{is_true}
use Rattle.records.specs.Record.{Record, follows}
use Rattle.records.specs.Judge.{bad, good, in_order, crosses_any}
use Rattle.image.specs.Image.{Image, sound, defective, after_judged, after_next, image_from, starts_right, image_of}
use Rattle.image.proofs.Sound.{Later, done, next, records-later}
use Rattle.rows.specs.Entry.{Entry, parsed_of, row_of}
use Rattle.rows.specs.Good.{AllGood, good-cons}
use Rattle.rows.specs.Ordered.{AllAfter, after_nil, after-cons, Ordered, ordered_nil, ordered-cons, Continues}
use Rattle.records.proofs.Judging.{judged-after}
use Rattle.rows.proofs.Rows.{image-step, image-full, entry-head}
use Rattle.rows.proofs.Images.{row_of_lem, start-kept}
use Rattle.records.proofs.Order.{follows_trans}

pub all-after_trans : (p r : Record) (records : List Record) → follows p r ≡ true → AllAfter r records → AllAfter p records
all-after_trans p r [] e a = after_nil
all-after_trans p r (q ∷ records) e (after-cons f a) = after-cons (follows_trans p r q e f) (all-after_trans p r records e a)

-- The records of a sound image

none_after : (earlier : List Record) → Continues earlier []
none_after [] = tt
none_after (p ∷ earlier) = after_nil

one_more : (earlier later : List Record) (r : Record) → in_order earlier r ≡ true → Ordered later × AllAfter r later → Ordered (r ∷ later) × Continues earlier (r ∷ later)
unfolding in_order
one_more [] later r e w = (ordered-cons w.1 w.0, tt)
one_more (p ∷ earlier) later r e w = (ordered-cons w.1 w.0, after-cons e (all-after_trans p r later e w.1))

-- records accepted one after another, after the earlier ones
continued : (earlier : List Record) {later : List Record} → Later earlier later → Ordered later × Continues earlier later
continued earlier done = (ordered_nil, none_after earlier)
continued earlier (next {later = later} {r = r} a l) =
    one_more earlier later r (is_true (in_order earlier r) a.ordered) (continued (r ∷ earlier) l)

pub sound-ordered : (image : List ℕ) (records : List Record) → image_of image ≡ sound records → Ordered records
sound-ordered image records e = (continued [] (records-later image records e)).0

-- Rows of entries in order

-- no defect, or one of a list
abbrev pub OnlyDefects : List ℕ → Image → Type 0
OnlyDefects ds (sound records) = Unit {0}
OnlyDefects ds (defective defect place) = contains defect ds ≡ true

in_order_lem : (earlier : List Record) (r : Record) (records : List Record) → Continues earlier (r ∷ records) → in_order earlier r ≡ true
unfolding in_order
in_order_lem [] r records c = refl
in_order_lem (p ∷ earlier) r records (after-cons e a) = e

pub ordered-row : (n : ℕ) (earlier : List Record) (es : List Entry) → AllGood es → Ordered (parsed_of es) → Continues earlier (parsed_of es)
    → OnlyDefects (1 ∷ 3 ∷ 7 ∷ []) (image_from n earlier (row_of es))
unfolding row_of image_from contains
ordered-row zero earlier [] k s c = tt
ordered-row (suc n) earlier [] k s c = tt
ordered-row zero earlier (e ∷ es) (good-cons x k) s c =
    rw (image-full earlier x.tag x.contents (row_of es) (e.bytes ++ row_of es) (entry-head e x (row_of es))) refl
ordered-row (suc n) earlier (e ∷ es) (good-cons x k) (ordered-cons a s) c =
    rw (
      image-step earlier x.tag x.contents (row_of es) n (e.bytes ++ row_of es) (entry-head e x (row_of es)),
      judged-after [] x.tag x.contents e.parsed x.alone earlier,
      in_order_lem earlier e.parsed (parsed_of es) c,
    )
    (by_overlap (crosses_any earlier e.parsed) (ordered-row n (e.parsed ∷ earlier) es k s a))
  where
    by_overlap : (t : Bool) → OnlyDefects (1 ∷ 3 ∷ 7 ∷ []) (image_from n (e.parsed ∷ earlier) (row_of es))
        → OnlyDefects (1 ∷ 3 ∷ 7 ∷ []) (after_next earlier (after_judged (cond t (bad 7) (good e.parsed)) (row_of es)) (λ r t. image_from n (r ∷ earlier) t))
    by_overlap true z = refl
    by_overlap false z = z

pub ordered-image : (s : List ℕ) (es : List Entry) → starts_right s ≡ true → AllGood es → Ordered (parsed_of es)
    → OnlyDefects (1 ∷ 3 ∷ 7 ∷ []) (image_of (take 4 s ++ row_of es))
unfolding image_of contains
ordered-image s es e k l = by_length (leb (length (take 4 s ++ row_of es)) 262144) refl
  where
    by_length : (t : Bool) → leb (length (take 4 s ++ row_of es)) 262144 ≡ t → OnlyDefects (1 ∷ 3 ∷ 7 ∷ []) (image_of (take 4 s ++ row_of es))
    by_length true x = rw (x, start-kept s (row_of es) e, row_of_lem s (row_of es) e) (ordered-row 4096 [] es k l tt)
    by_length false x = rw x refl
