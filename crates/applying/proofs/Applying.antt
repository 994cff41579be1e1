-- A change applied to the index, and the changes of a file one after another.
use Rattle.std.specs.Prelude.{None, Some}
use mathlib.Core.Path.{◌≡◌, refl, sym, ◌∙◌, ap}
use mathlib.Core.Bool.{Bool, true, false, not, false≢true}
use mathlib.Core.List.{List, [], ◌∷◌, ◌++◌, map}
use Prim.Native.Nat.{ℕ, zero, suc, ◌+◌, ◌-◌, ◌*◌, ◌≤◌, ◌<◌}
use native.Mathlib.Omega.{arith}
use borrow.Author.Tests.{le-ltb, ltb-true, ltb-false}
use lib.Dec.{ltb}
use lib.ListN.{length, get_or, take, drop, length-drop, take-append-drop, drop_of_length-le}
use lib.Seq.{slice, length-slice, take-take}
use Rattle.std.specs.Prelude.{Ok, Err}
use Rattle.std.specs.Bool.{then_some}
use Rattle.registry.specs.Limits.{most_records, most_image}
use Rattle.fields.specs.Field.{Head, field, short, head_of}
use Rattle.fields.specs.Slices.{part_slice}
use Rattle.records.specs.Record.{Record}
use Rattle.rows.specs.Entry.{Entry}
use Rattle.fields.proofs.Starts.{starts-field}
use Rattle.changes.specs.Limits.{most_entries}
use Rattle.changes.specs.Change as Changes
use Rattle.changes.specs.Change.{keyed, same_key, change_of, is_there, insert, without, applied, done, refused_at, later, after_applied, changes_from, changes_of}
use Rattle.changes.specs.Rank.{rank_of, starts_with}
use Rattle.changes.proofs.Ranks.{insert-at, there-at, without_at}
use Rattle.changes.proofs.Files.{later-zero, later-later, change-end, change-cut, change-step}
use Rattle.changes.proofs.Applying.{good-insert, good-filter}
use Rattle.changes.proofs.Ordered.{ordered-insert, ordered-filter}
use Rattle.merged.specs.Held.{bytes_at, parsed_from, entry_of, entries_at, Recorded, Held, Merged}
use Rattle.by_key.specs.Key.{bare_key}
use Rattle.one_change.specs.Read.{change_in, Stated, ChangeAt, adding}
use Rattle.applying.specs.Steps.{Step, Passed, AppliedAt, AppliedTo, changed_from}
use Rattle.merged.specs.declared.Records.{Records}
use Rattle.merged.specs.Listed.{listed, starts_in, MergedIn, SameFiles}
use Rattle.merged.proofs.Known.{known, nine}
use Rattle.merged.proofs.Rows.{entries_append, field-here}
use Rattle.by_key.proofs.Keys.{keyed-is, rank_key, there-key}
use Rattle.by_key.proofs.Ranks.{rank_few, there-none}

-- the record of a change by its start
pub record_start : (image changes : List ℕ) (start end : ℕ) → start ≤ end → end ≤ length changes → Recorded (slice start end changes)
    → bytes_at image changes (most_image + start) ≡ slice start end changes
unfolding bytes_at
record_start image changes start end h l k =
    let s : List ℕ = slice start end changes in
    let n : ℕ = end - start in
    let p : take (end - start) (drop start changes) ≡ slice start end changes = part_slice start end changes h in
    let x = starts-field (slice start end changes) k.tag k.contents [] k.head in
    let j : slice start end changes ++ drop (end - start) (drop start changes) ≡ drop start changes =
    ap (λ (t : List ℕ). t ++ drop (end - start) (drop start changes)) (sym p) ∙ take-append-drop (end - start) (drop start changes) in
    let e = rw j at (x.followed (drop (end - start) (drop start changes))) in
    let m : 3 + length k.contents ≡ end - start = omega (arith, x.long, length-slice start end changes l) in
    let q : most_image + start - most_image ≡ start = omega arith in
    rw (le-ltb (most_image + start) most_image (omega arith), q)
    (field-here changes start k.tag k.contents _ (omega arith) e ∙ rw m p)

map-take : {A B : Type 0} (f : A → B) (i : ℕ) (l : List A) → map f (take i l) ≡ take i (map f l)
map-take f zero l = refl
map-take f (suc i) [] = refl
map-take {B = B} f (suc i) (x ∷ l) = ap (λ (t : List B). f x ∷ t) (map-take f i l)

map-drop : {A B : Type 0} (f : A → B) (i : ℕ) (l : List A) → map f (drop i l) ≡ drop i (map f l)
map-drop f zero l = refl
map-drop f (suc i) [] = refl
map-drop f (suc i) (x ∷ l) = map-drop f i l

module _ {image changes index : List ℕ} {n : ℕ} (m : Merged image changes index n) where
  abbrev es : List Entry
  es = entries_at image changes (take n index)

  front-is : (at : ℕ) → at ≤ n → entries_at image changes (take at index) ≡ take at es
  front-is at l =
      ap (entries_at image changes) (sym (take-take at n index l))
      ∙ map-take (λ (p : ℕ). entry_of (bytes_at image changes p)) at (take n index)

  back_is : (at : ℕ) → entries_at image changes (drop at (take n index)) ≡ drop at es
  back_is at = map-drop (λ (p : ℕ). entry_of (bytes_at image changes p)) at (take n index)

  -- an addition
  module _ (s : List ℕ) (x : Recorded s) (tag : ℕ) (key : List ℕ) (e : tag ≡ get_or s 0 0) (f : key ≡ bare_key (parsed_from s)) where
    key-is : keyed tag key ≡ keyed (parsed_from s).tag (bare_key (parsed_from s))
    key-is = keyed-is _ _ _ _ (e ∙ (known s x).tag_is) f

    there-is : (t : Bool) → t ≡ is_there (keyed tag key) es → is_there (parsed_from s) es ≡ t
    there-is t y = sym (y ∙ ap (λ (r : Record). is_there r es) key-is ∙ there-key (parsed_from s) es)

    pub add-there : (t : Bool) → t ≡ is_there (keyed tag key) es → t ≡ true → applied (Changes.add (entry_of s)) es ≡ None
    add-there t y z = rw (there-is t y ∙ z)

    module _ (t : Bool) (y : t ≡ is_there (keyed tag key) es) (z : t ≡ false) (at : ℕ) (a : at ≡ rank_of (keyed tag key) es)
        (stands_at : ℕ) (b : bytes_at image changes stands_at ≡ s) where
      inserted : entries_at image changes (take at index ++ stands_at ∷ drop at (take n index)) ≡ insert (entry_of s) es
      inserted =
          let u : at ≡ rank_of (parsed_from s) es = a ∙ ap (λ (r : Record). rank_of r es) key-is ∙ rank_key (parsed_from s) es in
          let v : entries_at image changes (take at index ++ stands_at ∷ drop at (take n index)) ≡ take at es ++ entry_of s ∷ drop at es =
          entries_append image changes (take at index) (stands_at ∷ drop at (take n index))
          ∙ rw (front-is at (rw u (rank_few m (parsed_from s))), back_is at, b) in
          v ∙ sym (insert-at (entry_of s) es ∙ rw (← u))

      pub add-here : applied (Changes.add (entry_of s)) es ≡ Some (entries_at image changes (take at index ++ stands_at ∷ drop at (take n index)))
      add-here = rw (there-is t y ∙ z) (ap Some (sym inserted))

      pub add_held : Held image changes (take at index ++ stands_at ∷ drop at (take n index))
      add_held = record {
        good = rw inserted (good-insert (entry_of s) x es m.held.good);
        ordered = rw inserted (ordered-insert (entry_of s) es (there-is t y ∙ z) m.held.ordered);
      }

    pub add_start : (at : ℕ) → at ≡ rank_of (keyed tag key) es → at ≤ n
    add_start at a = omega (arith, a, rank_few m (keyed tag key))

  -- a removal
  module _ (r : Record) where
    pub remove_absent : (t : Bool) → t ≡ is_there r es → not t ≡ true → applied (Changes.remove r) es ≡ None
    remove_absent true y z = absurd (false≢true z)
    remove_absent false y z = rw (← y)

    module _ (t : Bool) (y : t ≡ is_there r es) (z : not t ≡ false) (at : ℕ) (a : at ≡ rank_of r es) where
      there : is_there r es ≡ true
      there = by-test t y z
        where
          by-test : (v : Bool) → v ≡ is_there r es → not v ≡ false → is_there r es ≡ true
          by-test true p q = sym p
          by-test false p q = absurd (false≢true (sym q))

      pub remove-start : at < n
      remove-start = by-room (ltb at n) refl
        where
          by-room : (v : Bool) → ltb at n ≡ v → at < n
          by-room true p = ltb-true at n p
          by-room false p = absurd (false≢true (there-none m r at a (ltb-false at n p) ∙ there))

      removed : entries_at image changes (take at index ++ drop (at + 1) (take n index)) ≡ without r es
      removed =
          let w : starts_with r (drop (rank_of r es) es) ≡ true = sym (there-at r es m.held.ordered) ∙ there in
          let q : at + 1 ≡ suc at = omega arith in
          let v : entries_at image changes (take at index ++ drop (at + 1) (take n index)) ≡ take at es ++ drop (suc at) es =
          entries_append image changes (take at index) (drop (at + 1) (take n index))
          ∙ rw (front-is at (omega (arith, remove-start)), back_is (at + 1), q) in
          v ∙ sym (without_at r es m.held.ordered w ∙ rw (← a))

      pub remove-here : applied (Changes.remove r) es ≡ Some (entries_at image changes (take at index ++ drop (at + 1) (take n index)))
      remove-here = rw there (ap Some (sym removed))

      pub remove_held : Held image changes (take at index ++ drop (at + 1) (take n index))
      remove_held = record {
        good = rw removed (good-filter (λ (e : Entry). not (same_key e.parsed r)) es m.held.good);
        ordered = rw removed (ordered-filter (λ (e : Entry). not (same_key e.parsed r)) es m.held.ordered);
      }

-- the records at other starts
pub relisted : (before after : Records) → SameFiles before after → (starts : List ℕ) → starts_in after ≡ starts
    → Some (entries_at before.image.now before.changes.now starts) ≡ Some (listed after)
relisted before after f starts e =
    let i : after.image.now ≡ before.image.now = ap (λ b. b.now) f.image in
    let c : after.changes.now ≡ before.changes.now = ap (λ b. b.now) f.changes in
    rw (i, c, e)

pub remerged : (before after : Records) → SameFiles before after → length after.starts ≡ most_entries → (starts : List ℕ) → starts_in after ≡ starts
    → Held before.image.now before.changes.now starts → MergedIn after
remerged before after f l starts e h =
    let i : after.image.now ≡ before.image.now = ap (λ b. b.now) f.image in
    let c : after.changes.now ≡ before.changes.now = ap (λ b. b.now) f.changes in
    record { full = l; few = after.few; held = rw (i, c, e) h }

-- The changes one after another

module _ (before after : Records) (at : ℕ) (h : at < length before.changes.now) where
  long : length (drop at before.changes.now) ≤ length before.changes.now
  long = omega (arith, length-drop at before.changes.now)

  pub none-read : SameFiles before after → ChangeAt before.changes.now at None → AppliedAt at before after None
  none-read f e = (by-head (head_of (drop at before.changes.now)) refl e, f)
    where
      by-head : (x : Head) → head_of (drop at before.changes.now) ≡ x → change_in x ≡ Changes.malformed → changed_from before at ≡ refused_at 0
      by-head short y z = change-cut (length before.changes.now) (listed before) (drop at before.changes.now) y (omega (arith, length-drop at before.changes.now))
      by-head (field tag contents rest) y z =
          change-step (length before.changes.now) (listed before) (drop at before.changes.now) tag contents rest y long ∙ rw z

  module _ {start end : ℕ} {change : Changes.Change} (x : Stated before.changes.now at start end change) where
    step : changed_from before at
        ≡ after_applied (applied change (listed before)) (3 + length (slice start end before.changes.now)) (λ next. changes_from (length before.changes.now) next (drop end before.changes.now))
    step =
        change-step (length before.changes.now) (listed before) (drop at before.changes.now) x.tag (slice start end before.changes.now) (drop end before.changes.now) x.head long
        ∙ rw x.is

    pub passed : {n : ℕ} (ok : Bool) → Step change before after n ok → 12 * n + at ≤ 12 * before.count + end → AppliedAt at before after (then_some ok end)
    passed {n} false k g = (step ∙ rw k.is, k.files)
    passed {n} true k g =
        let l : 3 + length (slice start end before.changes.now) ≡ end - at = omega (arith, x.after, x.forward, length-slice start end before.changes.now x.within) in
        let f : after.changes.now ≡ before.changes.now = ap (λ b. b.now) k.files.changes in
        record {
          forward = omega (arith, x.after, x.forward);
          within = x.within;
          rest = step ∙ rw (k.is, l, f);
          few = omega (arith, g, k.count refl);
          files = k.files;
        }

pub added-long : (before : Records) (at : ℕ) {start end : ℕ} → Stated before.changes.now at start end (adding before.changes.now start end) → Recorded (slice start end before.changes.now)
    → 12 * (before.count + 1) + at ≤ 12 * before.count + end
added-long before at {start} {end} x r =
    omega (arith, nine (slice start end before.changes.now) r, length-slice start end before.changes.now x.within, x.after, x.forward)

-- the changes before `at` are applied; every addition took at least 12 bytes
pub record Reached (before now : Records) (at : ℕ) : Type 0 where
  pub inside : at ≤ length before.changes.now
  pub few : 12 * now.count ≤ 12 * most_records + at
  pub rest : later at (changed_from now at) ≡ changes_of (listed before) before.changes.now
  pub files : SameFiles before now

pub reach_start : (m : Records) → m.count ≤ most_records → Reached m m 0
unfolding changes_of
reach_start m l = record { inside = omega arith; few = omega arith; rest = later-zero _; files = record { image = refl; changes = refl } }

module _ {before now : Records} {at : ℕ} (m : Reached before now at) where
  same_changes : now.changes.now ≡ before.changes.now
  same_changes = ap (λ b. b.now) m.files.changes

  pub reach_end : length now.changes.now ≤ at → AppliedTo before now (Ok tt)
  reach_end h =
      let z : drop at now.changes.now ≡ [] = drop_of_length-le now.changes.now {i = at} h in
      let e : changed_from now at ≡ done (listed now) = rw z (change-end (length now.changes.now) (listed now)) in
      (sym m.rest ∙ ap (later at) e, m.files)

  pub reach_refused : (after : Records) → AppliedAt at now after None → AppliedTo before after (Err at)
  reach_refused after e =
      let z : at + 0 ≡ at = omega arith in (
        sym m.rest ∙ ap (later at) e.0 ∙ rw z,
        m.inside,
        record { image = e.1.image ∙ m.files.image; changes = e.1.changes ∙ m.files.changes },
      )

  pub reach_next : (after : Records) (end : ℕ) → Passed at end now after → Reached before after end
  reach_next after end p =
      let z : at + (end - at) ≡ end = omega (arith, p.forward) in
      record {
        inside = omega (arith, p.within, ap length same_changes);
        few = omega (arith, m.few, p.few);
        rest = ap (λ (i : ℕ). later i (changed_from after end)) (sym z) ∙ sym (later-later at (end - at) (changed_from after end)) ∙ ap (later at) (sym p.rest) ∙ m.rest;
        files = record { image = p.files.image ∙ m.files.image; changes = p.files.changes ∙ m.files.changes };
      }
