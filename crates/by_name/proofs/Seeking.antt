-- The search by halves in a run that is sorted by the text that is sought: what the steps leave, and what is found in the end.
use Prim.Native.Nat.{ℕ, ◌+◌, ◌-◌, ◌^◌, ◌/◌, ◌≤◌, ◌<◌}
use mathlib.Core.Bool.{Bool, true, false}
use mathlib.Core.Path.{◌≡◌, refl, sym, ap, ◌∙◌}
use mathlib.Core.List.{List, [], ◌∷◌}
use native.Mathlib.Omega.{arith}
use borrow.Author.Tests.{not-true, leb-true, leb-false}
use lib.Dec.{leb}
use lib.ListN.{get_or}
use Rattle.octets.specs.Lists.{keep}
use Rattle.octets.specs.Number.{at_most}
use Rattle.octets.proofs.Order.{after_trans, not-after-itself}
use Rattle.texts.specs.Compare.{alike}
use Rattle.registry.specs.declared.Text.{Text}
use Rattle.folding.proofs.Alike.{alike-itself, alike_others}
use Rattle.pattern.specs.Pattern.{matches_form}
use Rattle.pattern.specs.declared.Form.TheVariants.{Exact}
use Rattle.records.specs.Record.{Record, sorted_after, follows}
use Rattle.image.specs.Part.{contents_of}
use Rattle.image.specs.Index.{Selected}
use Rattle.image.specs.declared.Run.{Run}
use Rattle.registry.specs.declared.Part.{Part}
use Rattle.halves.proofs.Halves.{Sorted, by_neighbours, Halved, fewer}
use Rattle.entries.proofs.Tags.{record_follows}
use Rattle.search.specs.Search.{which_of, field_of, is_called}
use Rattle.search.specs.Picks.{text_at, called_in}
use Rattle.by_name.specs.Seeking.{SortedBy, domains, nameservers, entities}
use Rattle.search.proofs.Picks.{stands, text-here, found_from, turn, passed, before-run, behind-run}

-- the text of record i, where the index says that it stands
abbrev pub key_at : List ℕ → List ℕ → Part → ℕ → List ℕ
key_at s starts which i = text_at s (get_or starts i 0) which

abbrev pub Before : List ℕ → List ℕ → Part → List ℕ → ℕ → Type 0
Before s starts which wanted i = at_most wanted (key_at s starts which i) ≡ false

abbrev pub Behind : List ℕ → List ℕ → Part → List ℕ → ℕ → Type 0
Behind s starts which wanted i = at_most (key_at s starts which i) wanted ≡ false

-- The keys of the run rise

one_tag : {low high : ℕ} {text : Text} → SortedBy low high text → low ≡ high
one_tag domains = refl
one_tag nameservers = refl
one_tag entities = refl

key-after : {low high : ℕ} {text : Text} → SortedBy low high text → (p r : Record) → p.tag ≡ low → r.tag ≡ low
    → follows p r ≡ true → at_most (contents_of (which_of text) r) (contents_of (which_of text) p) ≡ false
unfolding follows sorted_after
key-after domains p r h k e = not-true (at_most r.name p.name) (rw (h, k) at e)
key-after nameservers p r h k e = not-true (at_most r.name p.name) (rw (h, k) at e)
key-after entities p r h k e = not-true (at_most r.handle p.handle) (rw (h, k) at e)

-- which part of a record the text is
module _ {s starts : List ℕ} {run : Run} (a : Selected s starts run) {text : Text} (l : SortedBy run.low run.high text) (which : Part) (by : which ≡ which_of text) where
  abbrev key : ℕ → List ℕ
  key i = key_at s starts which i

  tag_is : (i : ℕ) → run.from ≤ i → (h : i < run.until) → (stands a i h).r.tag ≡ run.low
  tag_is i k h = let t = a.run_of.inside i k h in omega (arith, (stands a i h).tag, t.0, t.1, one_tag l)

  next-key : (i : ℕ) → run.from ≤ i → i + 1 < run.until → at_most (key (i + 1)) (key i) ≡ false
  next-key i h k =
      let x = stands a i (omega arith) in
      let y = stands a (i + 1) k in
      rw (text-here a i (omega arith) which, text-here a (i + 1) k which)
      (rw by (key-after l x.r y.r (tag_is i h (omega arith)) (tag_is (i + 1) (omega arith) k) (record_follows s a.count a.indexed.sound i x y)))

  module _ (wanted : List ℕ) where
    pub keys_sorted : Sorted (Before s starts which wanted) (Behind s starts which wanted) run.from run.until
    keys_sorted =
        by_neighbours (λ i h k b. after_trans (key i) (key (i + 1)) wanted (next-key i h k) b) (λ i h k b. after_trans wanted (key i) (key (i + 1)) b (next-key i h k))

    -- what the full reading finds, from record i on
    abbrev from : ℕ → List ℕ
    from i = found_from s run which false Exact wanted i

    is_reading : from 0 ≡ called_in s run text wanted
    unfolding is_called field_of matches_form
    is_reading = ap (λ (x : Part). found_from s run x false Exact wanted 0) by

    step : (i : ℕ) → run.from ≤ i → i < run.until → {v : Bool} → alike false wanted (key i) ≡ v → from i ≡ keep v i (from (i + 1))
    unfolding matches_form
    step i h k e = turn a which false Exact wanted i h k (sym e)

    before-unlike : (i : ℕ) → Before s starts which wanted i → alike false wanted (key i) ≡ false
    before-unlike i h = alike_others wanted (key i) (not-after-itself wanted (key i) h)

    behind-unlike : (i : ℕ) → Behind s starts which wanted i → alike false wanted (key i) ≡ false
    behind-unlike i h = alike_others wanted (key i) (λ e. not-after-itself (key i) wanted h (sym e))

    unlike : (i j : ℕ) → run.from ≤ i → i ≤ j → j ≤ run.until → ((m : ℕ) → i ≤ m → m < j → alike false wanted (key m) ≡ false) → from i ≡ from j
    unlike i j h k l others = passed a which false Exact wanted i j k (λ m p q. step m (omega arith) (omega arith) (others m p q))

    -- every record of the run comes before or behind
    pub none_found : (low high : ℕ) → Halved (Before s starts which wanted) (Behind s starts which wanted) run.from run.until low high → high ≤ low → [] ≡ called_in s run text wanted
    none_found low high w h =
        let f = a.run_of.forward in
        sym (sym (before-run a which false Exact wanted)
        ∙ unlike run.from run.until (omega arith) (omega arith) (omega arith) (λ m p q. by_order m p q (leb low m) refl)
        ∙ behind-run a which false Exact wanted)
        ∙ is_reading
      where
        by_order : (m : ℕ) → run.from ≤ m → m < run.until → (t : Bool) → leb low m ≡ t → alike false wanted (key m) ≡ false
        by_order m p q true e = behind-unlike m (w.above m (omega (arith, leb-true low m e)) q)
        by_order m p q false e = before-unlike m (w.below m p (omega (arith, leb-false low m e)))

    -- the record that is sought is the only one: its neighbours come before and behind it
    module _ (i : ℕ) (h : run.from ≤ i) (k : i < run.until) (e : key i ≡ wanted) where
      earlier : (m : ℕ) → run.from ≤ m → m < i → alike false wanted (key m) ≡ false
      earlier m p q =
          let f : i - 1 + 1 ≡ i = omega arith in
          before-unlike m (keys_sorted.down m (i - 1) p (omega arith) (omega arith) (rw (f, e) at (next-key (i - 1) (omega arith) (omega arith))))

      later : (m : ℕ) → i + 1 ≤ m → m < run.until → alike false wanted (key m) ≡ false
      later m p q = behind-unlike m (keys_sorted.up (i + 1) m (omega arith) p q (rw e at (next-key i h (omega arith))))

      pub one_found : i ∷ [] ≡ called_in s run text wanted
      one_found =
          sym (sym (before-run a which false Exact wanted)
          ∙ unlike run.from i (omega arith) h (omega arith) earlier
          ∙ step i h k {v = true} (rw e (alike-itself wanted))
          ∙ ap (λ (l : List ℕ). i ∷ l)
          (unlike (i + 1) run.until (omega arith) (omega arith) (omega arith) later ∙ behind-run a which false Exact wanted))
          ∙ is_reading

-- How many records are left after so many steps

pub record Left (steps left : ℕ) : Type 0 where
  pub bounded : steps ≤ 13
  pub few-left : left < 2 ^ (13 - steps)

pub at-start : (from until : ℕ) → until ≤ 4096 → Left 0 (until - from)
at-start from until h = record { bounded = omega arith; few-left = omega arith }

module _ (steps low high : ℕ) (h : low < high) (l : Left steps (high - low)) where
  pub step_allowed : steps < 13
  step_allowed = omega (arith, (fewer (13 - steps) (high - low) 0 (omega arith) l.few-left (omega arith)).0)

  pub step-taken : (later left : ℕ) → later ≡ steps + 1 → left ≤ (high - low) / 2 → Left later left
  step-taken later left e m =
      let f : 13 - later ≡ 13 - steps - 1 = omega arith in
      record { bounded = omega (arith, step_allowed); few-left = rw f (fewer (13 - steps) (high - low) left (omega arith) l.few-left m).1 }
