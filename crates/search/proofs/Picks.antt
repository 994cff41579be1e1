-- A walk over the records of a run: the test of one record, and what is still to be found.
use Rattle.std.specs.Prelude.{Result}
use Prim.Native.Nat.{ℕ, ◌+◌, ◌≤◌, ◌<◌}
use mathlib.Core.Bool.{Bool, true, false, ◌&&◌}
use mathlib.Core.Path.{◌≡◌, refl, sym, ap, ◌∙◌}
use mathlib.Core.List.{List, [], ◌++◌, append-nil}
use native.Mathlib.Numerals.{add-one}
use native.Mathlib.Omega.{arith}
use borrow.Author.Tests.{lt-leb, le-leb}
use lib.Dec.{leb}
use lib.ListN.{length, drop, get_or, drop_of_length-le}
use Rattle.octets.specs.Lists.{within, keep}
use Rattle.registry.specs.declared.Text.{Text}
use Rattle.pattern.specs.Pattern.{matches_form, folds_case}
use Rattle.pattern.specs.declared.Form.{Form}
use Rattle.records.specs.Positions.{Inside}
use Rattle.image.specs.Image.{image_of}
use Rattle.image.specs.Part.{records_of, contents_of}
use Rattle.image.specs.Entries.{contents_span}
use Rattle.image.specs.Index.{tag_of, Standing, Selected}
use Rattle.image.specs.declared.Run.{Run}
use Rattle.registry.specs.declared.Part.{Part}
use Rattle.image.proofs.Soundness.{counted, few-records, few_bytes}
use Rattle.halves.proofs.Halves.{carried}
use Rattle.entries.proofs.Standing.{standing_of, contents_in_image, start-inside}
use Rattle.output.specs.Listing.{Reported}
use Rattle.output.specs.declared.NoRoom.{NoRoom}
use Rattle.search.specs.Search.{numbers_from, which_of, field_of, is_match}
use Rattle.search.specs.Picks.{text_at, picks_record, picked_in, matching_in}

-- a search by pattern: the part that the text is, and case folded as it asks
pub matched :
    (run : Run) (text : Text) (form : Form) (pattern s : List ℕ) {fold : Bool} → fold ≡ folds_case text → {which : Part} → which ≡ which_of text → {list after : List ℕ} {r : Result ℕ NoRoom}
    → Reported (picked_in s run which fold form pattern) list after r → Reported (matching_in s run text form pattern) list after r
unfolding is_match field_of
matched run text form pattern s e f p = rw (e, f) at p

-- a record of the run, where the index says that it stands
module _ {s starts : List ℕ} {run : Run} (a : Selected s starts run) where
  pub few : run.until ≤ 4096
  few = let h = few-records s a.count a.indexed.sound in omega (arith, a.run_of.ends)

  module _ (i : ℕ) (h : i < run.until) where
    known : i < a.count
    known = omega (arith, a.run_of.ends)

    pub stands : Standing s i
    stands = standing_of s a.count a.indexed.sound i known

    pub in_image : (get_or starts i 0 + 3 ≤ length s) × (length s ≤ 262144)
    in_image = (start-inside s starts a.count a.indexed i known, few_bytes s a.count a.indexed.sound)

    pub text-inside : (which : Part) → Inside (length s) (contents_span which s (get_or starts i 0))
    text-inside which = rw (a.indexed.start i known) (contents_in_image stands which)

    pub text-here : (which : Part) → text_at s (get_or starts i 0) which ≡ contents_of which stands.r
    text-here which = rw (a.indexed.start i known) (stands.contents which)

-- what is found from record i on
abbrev pub found_from : List ℕ → Run → Part → Bool → Form → List ℕ → ℕ → List ℕ
found_from s run which fold form pattern i = numbers_from (picks_record run.low run.high which fold form pattern) i (drop i (records_of (image_of s)))

module _ {s starts : List ℕ} {run : Run} (a : Selected s starts run) (which : Part) (fold : Bool) (form : Form) (pattern : List ℕ) where
  abbrev from : ℕ → List ℕ
  from i = found_from s run which fold form pattern i

  next : (i : ℕ) (x : Standing s i) (v : Bool) → picks_record run.low run.high which fold form pattern x.r ≡ v → from i ≡ keep v i (from (i + 1))
  next i x v e = ap (numbers_from (picks_record run.low run.high which fold form pattern) i) x.here ∙ rw (e, add-one i)

  -- a record of the run: the text decides
  pub turn :
      (i : ℕ) → run.from ≤ i → (h : i < run.until) {v : Bool}
      → v ≡ matches_form fold form pattern (text_at s (get_or starts i 0) which) → from i ≡ keep v i (from (i + 1))
  turn i k h {v} e =
      let x = stands a i h in
      let t = a.run_of.inside i k h in
      next i x v (rw (← text-here a i h which, ← x.tag, le-leb run.low (tag_of s i) t.0, le-leb (tag_of s i) run.high t.1) (sym e))

  pub passed : (i k : ℕ) → i ≤ k → ((j : ℕ) → i ≤ j → j < k → from j ≡ from (j + 1)) → from i ≡ from k
  passed i k h same = carried (λ (j : ℕ). from i ≡ from j) i k h refl (λ j l m e. e ∙ same j l m)

  -- a record of another tag is not picked
  other : (j : ℕ) → j < a.count → within run.low run.high (tag_of s j) ≡ false → from j ≡ from (j + 1)
  other j h e =
      let x = standing_of s a.count a.indexed.sound j h in
      let t : within run.low run.high x.r.tag ≡ false = rw (← x.tag) e in
      next j x false (rw t)

  pub before-run : from run.from ≡ from 0
  before-run =
      let h = a.run_of.forward in
      let k = a.run_of.ends in
      sym (passed 0 run.from (omega arith) (λ j l m. other j (omega arith) (rw (lt-leb run.low (tag_of s j) (a.run_of.before j m)))))

  pub behind-run : from run.until ≡ []
  behind-run =
      let c = counted (image_of s) a.count a.indexed.sound in
      passed run.until a.count a.run_of.ends (λ j l m. other j m (outside (leb run.low (tag_of s j)) (lt-leb (tag_of s j) run.high (a.run_of.behind j l m))))
      ∙ rw (drop_of_length-le (records_of (image_of s)) {i = a.count} (omega arith))
    where
      outside : (u : Bool) {v : Bool} → v ≡ false → (u && v) ≡ false
      outside true e = e
      outside false e = refl

  -- behind the run all is found
  pub all_found : (i : ℕ) {found whole : List ℕ} → i ≡ run.until → found ++ from i ≡ whole → found ≡ whole
  all_found i {found} h e = rw (h, behind-run, append-nil found) at e
