-- The records stay sorted under every change, so that a final image is only ever too long, has too many records, or an overlap.
use Rattle.std.specs.Prelude.{Some}
use mathlib.Core.Path.{◌≡◌, refl, sym}
use mathlib.Core.Bool.{Bool, true, false, not, cond, ◌&&◌, ◌||◌, false≢true}
use mathlib.Core.List.{List, [], ◌∷◌, ◌++◌}
use Prim.Native.Nat.{ℕ, ◌≤◌, ◌<◌}
use borrow.Author.Tests.{ltb-false, eqb-true, eqb-false}
use native.Mathlib.Omega.{arith}
use lib.Dec.{leb, ltb, eqb}
use lib.ListN.{length, take, drop}
use Rattle.octets.specs.Lists.{contains, keep, filter}
use Rattle.records.specs.Record.{Record, sorted_after, follows}
use Rattle.image.specs.Image.{Image, sound, defective, image_of}
use Rattle.rows.specs.Entry.{Entry, entries_of, parsed_of, row_of}
use Rattle.rows.specs.Ordered.{AllAfter, after_nil, after-cons, Ordered, ordered_nil, ordered-cons}
use Rattle.rows.proofs.Rows.{parsed-entries}
use Rattle.image.proofs.Soundness.{opens}
use Rattle.records.proofs.Order.{follows-lower, follows_same}
use Rattle.rows.proofs.Ordering.{all-after_trans, sound-ordered, OnlyDefects, ordered-image}
use Rattle.changes.specs.Limits.{most_changes}
use Rattle.changes.specs.Change.{same_key, change_of, is_there, insert, applied, Changed, done, refused_at, changes_of}
use Rattle.changes.specs.Fold.{bad_change, no_room, fits, finished, after_changes, after_image, fold_of, FinalDefects}
use Rattle.changes.proofs.Applying.{kept-by-all, Application, adding, removing, application}
use Rattle.changes.proofs.Folding.{changed-good}

-- of two records with different keys one follows the other
pub other_way : (p r : Record) → same_key p r ≡ false → follows p r ≡ false → follows r p ≡ true
unfolding same_key follows
other_way p r e f = by_tags (ltb p.tag r.tag) (eqb p.tag r.tag) (sorted_after p r) refl refl refl e f
  where
    by_sorting : (t : Bool) → p.tag ≡ r.tag → sorted_after r p ≡ t → not t ≡ false → follows r p ≡ true
    by_sorting true x y z = follows_same r p (sym x) y
    by_sorting false x y z = absurd (false≢true (sym z))

    by_tags : (t u v : Bool) → ltb p.tag r.tag ≡ t → eqb p.tag r.tag ≡ u → sorted_after p r ≡ v
        → (u && not v && not (sorted_after r p)) ≡ false → (t || (u && v)) ≡ false → follows r p ≡ true
    by_tags true u v x y z k l = absurd (false≢true (sym l))
    by_tags false true true x y z k l = absurd (false≢true (sym l))
    by_tags false true false x y z k l = by_sorting (sorted_after r p) (eqb-true _ _ y) refl k
    by_tags false false v x y z k l = follows-lower r p (lower (ltb-false p.tag r.tag x) (eqb-false p.tag r.tag y))
      where
        lower : r.tag ≤ p.tag → (p.tag ≡ r.tag → ⊥) → r.tag < p.tag
        lower a b = omega arith

or_false-left : (a b : Bool) → (a || b) ≡ false → a ≡ false
or_false-left true b e = e
or_false-left false b e = refl

or_false-right : (a b : Bool) → (a || b) ≡ false → b ≡ false
or_false-right true b e = absurd (false≢true (sym e))
or_false-right false b e = e

-- Insertion

after-insert : (p : Record) (e : Entry) (es : List Entry) → follows p e.parsed ≡ true → AllAfter p (parsed_of es) → AllAfter p (parsed_of (insert e es))
unfolding insert
after-insert p e [] k a = after-cons k a
after-insert p e (x ∷ es) k (after-cons l a) = by_order (follows x.parsed e.parsed) (after-insert p e es k a)
  where
    by_order : (t : Bool) → AllAfter p (parsed_of (insert e es)) → AllAfter p (parsed_of (cond t (x ∷ insert e es) (e ∷ x ∷ es)))
    by_order true z = after-cons l z
    by_order false z = after-cons k (after-cons l a)

pub ordered-insert : (e : Entry) (es : List Entry) → is_there e.parsed es ≡ false → Ordered (parsed_of es) → Ordered (parsed_of (insert e es))
unfolding insert
ordered-insert e [] h s = ordered-cons after_nil ordered_nil
ordered-insert e (x ∷ es) h (ordered-cons a s) =
    by_order (follows x.parsed e.parsed) refl (ordered-insert e es (or_false-right (same_key x.parsed e.parsed) _ h) s)
  where
    by_order : (t : Bool) → follows x.parsed e.parsed ≡ t → Ordered (parsed_of (insert e es)) → Ordered (parsed_of (cond t (x ∷ insert e es) (e ∷ x ∷ es)))
    by_order true k z = ordered-cons (after-insert x.parsed e es k a) z
    by_order false k z =
        let f : follows e.parsed x.parsed ≡ true = other_way x.parsed e.parsed (or_false-left _ (is_there e.parsed es) h) k in
        ordered-cons (after-cons f (all-after_trans e.parsed x.parsed (parsed_of es) f a)) (ordered-cons a s)

-- Removal

module _ (p : Entry → Bool) where
  after-filter : (q : Record) (es : List Entry) → AllAfter q (parsed_of es) → AllAfter q (parsed_of (filter p es))
  after-filter q [] a = after_nil
  after-filter q (x ∷ es) (after-cons l a) = by-test (p x) (after-filter q es a)
    where
      by-test : (t : Bool) → AllAfter q (parsed_of (filter p es)) → AllAfter q (parsed_of (keep t x (filter p es)))
      by-test true z = after-cons l z
      by-test false z = z

  pub ordered-filter : (es : List Entry) → Ordered (parsed_of es) → Ordered (parsed_of (filter p es))
  ordered-filter [] s = ordered_nil
  ordered-filter (x ∷ es) (ordered-cons a s) = by-test (p x) (ordered-filter es s)
    where
      by-test : (t : Bool) → Ordered (parsed_of (filter p es)) → Ordered (parsed_of (keep t x (filter p es)))
      by-test true z = ordered-cons (after-filter x.parsed es a) z
      by-test false z = z

-- Files

abbrev pub OrderedEntries : List Entry → Type 0
OrderedEntries es = Ordered (parsed_of es)

pub ordered_step : (tag : ℕ) (contents : List ℕ) (es next : List Entry) → OrderedEntries es → applied (change_of tag contents) es ≡ Some next → OrderedEntries next
ordered_step tag contents es next s k = by-application (application tag contents es next k)
  where
    by-application : Application es next → OrderedEntries next
    by-application (adding e x h f) = rw f (ordered-insert e es h s)
    by-application (removing r f) = rw f (ordered-filter (λ (e : Entry). not (same_key e.parsed r)) es s)

pub changed-ordered : (image : List ℕ) (records : List Record) → image_of image ≡ sound records → (changes : List ℕ) (after : List Entry)
    → changes_of (entries_of records (drop 4 image)) changes ≡ done after → Ordered (parsed_of after)
unfolding changes_of
changed-ordered image records e changes after k =
    kept-by-all OrderedEntries ordered_step (length changes) (entries_of records (drop 4 image)) after changes k
    (rw (parsed-entries records (drop 4 image)) (sound-ordered image records e))

pub final_defects : FinalDefects
unfolding fold_of
final_defects image changes room e = by-image (image_of image) refl e
  where
    by_final : (out : List ℕ) (i : Image) → OnlyDefects (1 ∷ 3 ∷ 7 ∷ []) i → (finished out room i).reason ≡ 12 → contains (finished out room i).defect (1 ∷ 3 ∷ 7 ∷ []) ≡ true
    by_final out (defective d p) x k = x
    by_final out (sound found) x k = by-room (leb (length out) room) k
      where
        by-room : (t : Bool) → (cond t (fits out) (no_room (length out))).reason ≡ 12 → contains (cond t (fits out) (no_room (length out))).defect (1 ∷ 3 ∷ 7 ∷ []) ≡ true
        by-room true l = absurd (omega arith)
        by-room false l = absurd (omega arith)

    by-changed : (records : List Record) → image_of image ≡ sound records → (c : Changed) → changes_of (entries_of records (drop 4 image)) changes ≡ c
        → (after_changes (take 4 image) room c).reason ≡ 12 → contains (after_changes (take 4 image) room c).defect (1 ∷ 3 ∷ 7 ∷ []) ≡ true
    by-changed records x (refused_at offset) y k = absurd (omega arith)
    by-changed records x (done after) y k =
        by_final (take 4 image ++ row_of after) (image_of (take 4 image ++ row_of after))
        (ordered-image image after (opens image records x).started (changed-good image records x changes after y) (changed-ordered image records x changes after y)) k

    by_length : (records : List Record) → image_of image ≡ sound records → (t : Bool)
        → (cond t (after_changes (take 4 image) room (changes_of (entries_of records (drop 4 image)) changes)) (bad_change 0)).reason ≡ 12
        → contains (cond t (after_changes (take 4 image) room (changes_of (entries_of records (drop 4 image)) changes)) (bad_change 0)).defect (1 ∷ 3 ∷ 7 ∷ []) ≡ true
    by_length records x true k = by-changed records x (changes_of (entries_of records (drop 4 image)) changes) refl k
    by_length records x false k = absurd (omega arith)

    by-image : (i : Image) → image_of image ≡ i → (after_image image changes room i).reason ≡ 12 → contains (after_image image changes room i).defect (1 ∷ 3 ∷ 7 ∷ []) ≡ true
    by-image (defective d p) x k = absurd (omega arith)
    by-image (sound records) x k = by_length records x (leb (length changes) most_changes) k
