-- One pass over the records for overlaps: the open blocks stand for the earlier ones.
use mathlib.Core.Path.{◌≡◌, refl, sym, ◌∙◌}
use mathlib.Core.Bool.{Bool, true, false, cond}
use mathlib.Core.List.{List, [], ◌∷◌, ◌++◌}
use Prim.Native.Nat.{ℕ, zero, suc, ◌+◌, ◌-◌, ◌≤◌, ◌<◌}
use native.Mathlib.Omega.{arith}
use native.Mathlib.Numerals.{add-one}
use lib.ListN.{length, get_or, drop, set, length-set}
use lib.Seq.{get_or-set_same, get_or-set_other}
use Rattle.records.specs.Record.{Record, first_of, follows}
use Rattle.records.specs.Judge.{bad, good, in_order, crosses_any, judge}
use Rattle.records.proofs.Accepted.{After, follows-after}
use Rattle.image.specs.Image.{defective, after_judged, after_next, image_from}
use Rattle.placing.specs.Step.{nest_in}
use Rattle.std.specs.Prelude.{Option, Some, None}
use Rattle.placing.proofs.Opens.{Open, open_none, Goes, Nested, nests, pushed}
use Rattle.rows.specs.Entry.{Entry, parsed_of, row_of}
use Rattle.rows.specs.Ordered.{AllAfter, after-cons, Ordered, ordered-cons}
use Rattle.records.proofs.Judging.{judged-after}
use Rattle.rows.proofs.Rows.{image-step, entry-head}
use Rattle.changes.proofs.Ranks.{no-cons}
use Rattle.merged.specs.Held.{parsed_from, entry_of, Recorded}
use Rattle.merged.specs.Listed.{bytes_in, listed, MergedIn}
use Rattle.merged.specs.declared.Records.{Records}
use Rattle.overlaps.specs.Overlaps.{OpenBlocks, open_last, Overlaps}
use Rattle.merged.proofs.Known.{known, first-at-most}
use Rattle.merged.proofs.Numbered.{entry_at, recorded_at}

-- The pass

first-after : (p : Record) (es : List Entry) (y : Entry) (more : List Entry) → AllAfter p (parsed_of es) → es ≡ y ∷ more → follows p y.parsed ≡ true
first-after p [] y more a e = absurd (no-cons y more e)
first-after p (z ∷ es) y more (after-cons f a) e = let k : z ≡ y = cc in rw (← k) f

sorted-next : (i : ℕ) (es : List Entry) (x y : Entry) (rest more : List Entry) → Ordered (parsed_of es) → drop i es ≡ x ∷ rest → drop (suc i) es ≡ y ∷ more → follows x.parsed y.parsed ≡ true
sorted-next zero [] x y rest more s e f = absurd (no-cons x rest e)
sorted-next (suc i) [] x y rest more s e f = absurd (no-cons x rest e)
sorted-next zero (z ∷ es) x y rest more (ordered-cons a s) e f = let k : z ≡ x = cc in rw (← k) (first-after z.parsed es y more a f)
sorted-next (suc i) (z ∷ es) x y rest more (ordered-cons a s) e f = sorted-next i es x y rest more s e f

pub record Scanned (records : Records) (stack : List ℕ) (depth before i : ℕ) : Type 0 where
  pub earlier : List Record
  pub bound : ℕ
  pub counted : length earlier ≡ i
  pub opened : Open earlier before bound (open_last records stack) depth
  pub blocks : before ≤ 18 → OpenBlocks records stack depth before
  pub size : length stack ≡ 4096
  pub shallow : depth ≤ i
  pub rest : image_from (4096 - i) earlier (row_of (drop i (listed records))) ≡ image_from 4096 [] (row_of (listed records))
  pub next : (x : Entry) (more : List Entry) → drop i (listed records) ≡ x ∷ more → (in_order earlier x.parsed ≡ true) × After before bound x.parsed

pub scan-start : (records : Records) (stack : List ℕ) → length stack ≡ 4096 → Scanned records stack 0 0 0
unfolding in_order
scan-start records stack z = record {
  earlier = [];
  bound = 0;
  counted = refl;
  opened = open_none 0 _;
  blocks = λ y d k. absurd (omega (arith, k));
  size = z;
  shallow = omega arith;
  rest = refl;
  next = λ x more e. (refl, record { tags = omega arith; firsts = λ f b. omega arith });
}

module _ {records : Records} (o : MergedIn records) {stack : List ℕ} {depth before i : ℕ} (m : Scanned records stack depth before i) (l : i < records.count) where
  abbrev es : List Entry
  es = listed records

  abbrev start : ℕ
  start = get_or records.starts i 0

  abbrev x : Entry
  x = entry_of (bytes_in records start)

  abbrev q : Record
  q = parsed_from (bytes_in records start)

  here : drop i es ≡ x ∷ drop (suc i) es
  here = entry_at o i l

  pub whole : Recorded (bytes_in records start)
  whole = recorded_at o i l

  pub after : After before m.bound q
  after = (m.next x (drop (suc i) es) here).1

  -- a block after a block of its tag
  pub open_blocks : before ≡ q.tag → before ≤ 18 → OpenBlocks records stack depth before
  open_blocks e b = m.blocks b

  pub scan-room : i < 4096 → depth ≤ 4096
  scan-room g = omega (arith, m.shallow)

  module _ (g : i < 4096) where
    step : cond (crosses_any m.earlier q) (defective 7 (length m.earlier)) (image_from (4096 - (i + 1)) (q ∷ m.earlier) (row_of (drop (suc i) es)))
        ≡ image_from 4096 [] (row_of es)
    unfolding row_of
    step =
        let z : 4096 - i ≡ suc (4096 - (i + 1)) = omega arith in
        let w = whole in
        let a : image_from (4096 - i) m.earlier (row_of (drop i es))
        ≡ after_next m.earlier (after_judged (judge m.earlier w.tag w.contents) (row_of (drop (suc i) es))) (λ r t. image_from (4096 - (i + 1)) (r ∷ m.earlier) t) =
        rw (here, z) (image-step m.earlier w.tag w.contents (row_of (drop (suc i) es)) (4096 - (i + 1)) (bytes_in records start ++ row_of (drop (suc i) es)) (entry-head x w (row_of (drop (suc i) es)))) in
        let b : judge m.earlier w.tag w.contents ≡ cond true (cond (crosses_any m.earlier q) (bad 7) (good q)) (bad 6) =
        judged-after [] w.tag w.contents q w.alone m.earlier ∙ rw (m.next x (drop (suc i) es) here).0 in
        sym (a ∙ rw b (by_overlap (crosses_any m.earlier q))) ∙ m.rest
      where
        by_overlap : (t : Bool) → after_next m.earlier (after_judged (cond t (bad 7) (good q)) (row_of (drop (suc i) es))) (λ r t. image_from (4096 - (i + 1)) (r ∷ m.earlier) t)
            ≡ cond t (defective 7 (length m.earlier)) (image_from (4096 - (i + 1)) (q ∷ m.earlier) (row_of (drop (suc i) es)))
        by_overlap true = refl
        by_overlap false = refl

    module _ (y : Option ℕ) (p : y ≡ nest_in (open_last records stack) before q depth) where
      says : Nested m.earlier before (open_last records stack) depth q y
      says = rw p (nests m.opened q (known _ whole).low after (first-at-most _ whole))

      pub scan_crossing : y ≡ None → image_from 4096 [] (row_of es) ≡ defective 7 i
      scan_crossing e =
          let p : crosses_any m.earlier q ≡ true = rw e at says in
          sym (rw (p, m.counted) at step)

      module _ (u : ℕ) (e : y ≡ Some u) where
        under : Goes m.earlier before (open_last records stack) depth q u
        under = rw e at says

        pub scan_depth : u < 4096
        scan_depth = omega (arith, under.few, m.shallow)

        in_stack : u < length stack
        in_stack = omega (arith, scan_depth, m.size)

        pub scan-next : Scanned records (set stack u start) (u + 1) q.tag (i + 1)
        unfolding in_order
        scan-next = record {
          earlier = q ∷ m.earlier;
          bound = first_of q;
          counted = omega (arith, m.counted);
          opened = under.onward _ (λ d h. rw (get_or-set_other stack u d start 0 (λ z. omega (arith, z, h)))) (λ h. rw (get_or-set_same stack u start 0 in_stack));
          blocks = λ h. pushed (λ (v : ℕ). Recorded (bytes_in records v) × ((parsed_from (bytes_in records v)).tag ≡ q.tag)) stack u start in_stack (whole, refl)
              (λ d k. let f = under.family (omega (arith, k)) in (rw f at (m.blocks (omega arith))) d (omega (arith, k, under.few)));
          size = length-set stack u start ∙ m.size;
          shallow = omega (arith, under.few, m.shallow);
          rest = rw (add-one i) (rw (under.clear, add-one i) at step);
          next = λ y more f.
              (let g = sorted-next i es x y (drop (suc i) es) more o.held.ordered here (rw (add-one i) at f) in
              (g, follows-after q y.parsed g));
        }

        pub scan_on : (t : ℕ) → t ≡ q.tag → Scanned records (set stack u start) (u + 1) t (i + 1)
        scan_on t f = rw f scan-next

-- the answers
pub overlap_here : (es : List Entry) (n k : ℕ) → k < n → image_from 4096 [] (row_of es) ≡ defective 7 k → Overlaps es n (Some k)
overlap_here _ n k h e = (h, e)

pub overlap_none : {records : Records} {stack : List ℕ} {depth before i : ℕ} (n : ℕ) → Scanned records stack depth before i → i ≡ n → Overlaps (listed records) n None
overlap_none n m e = record { earlier = m.earlier; counted = m.counted ∙ e; rest = rw (← e) m.rest }
