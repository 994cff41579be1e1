-- The judgement on one record, step by step.
use mathlib.Core.Path.{◌≡◌, refl}
use mathlib.Core.Bool.{true, false, cond}
use mathlib.Core.List.{List}
use Prim.Native.Nat.{ℕ, ◌≤◌, ◌<◌}
use borrow.Author.Tests.{le-leb, lt-leb}
use lib.ListN.{length}
use lib.Seq.{slice}
use Rattle.std.specs.Prelude.{Option, Some, None}
use Rattle.records.specs.Record.{Record, Parsed, whole, malformed, is_whole, record_of, good_contents}
use Rattle.records.specs.Judge.{bad, judge_parsed, judge_alone}
use Rattle.records.specs.Layout.{layout_of, record_on, Lying}
use Rattle.record_shape.specs.Shaped.{Shaped}
use Rattle.record_judgement.specs.Judging.{Judging}
use Rattle.record_shape.specs.declared.Shape.{Shape}
use Rattle.registry.specs.declared.Defect.{Defect}
use Rattle.registry.specs.declared.Defect.TheVariants.{BadRecord, BadFields, BadContents}
use Rattle.registry.specs.Defects.{defect_number}
use Rattle.std.specs.Prelude.{Ok, Err}

module _ (s : List ℕ) (tag start end : ℕ) where
  pub judge-low : tag < 0x10 → Judging s tag start end (Err BadRecord)
  unfolding judge_alone
  judge-low h = λ earlier. rw (lt-leb 0x10 tag h)

  module _ (k : 0x10 ≤ tag) where
    pub judge-high : 0x15 < tag → Judging s tag start end (Err BadRecord)
    unfolding judge_alone
    judge-high h = λ earlier. rw (le-leb 0x10 tag k, lt-leb tag 0x15 h)

    module _ (l : tag ≤ 0x15) (shape : Option Shape) (m : Shaped s tag start end shape) where
      pub judge-refused : shape ≡ None → (d : Defect) → d ≡ cond (is_whole (record_of tag (slice start end s))) BadContents BadFields → Judging s tag start end (Err d)
      unfolding judge_alone
      judge-refused e d f = λ earlier. rw (le-leb 0x10 tag k, le-leb tag 0x15 l, f) (by_parse earlier (record_of tag (slice start end s)) (rw e at m))
        where
          by_parse : (earlier : List Record) (r : Parsed) → ((q : Record) → r ≡ whole q → good_contents q ≡ false) → judge_parsed earlier r ≡ bad (defect_number (cond (is_whole r) BadContents BadFields))
          by_parse earlier (whole q) n = rw (n q refl)
          by_parse earlier malformed n = refl

      module _ (x : Shape) (e : shape ≡ Some x) where
        shaped : Shaped s tag start end (Some x)
        shaped = rw e at m

        pub lying : Lying (length s) (layout_of tag start x.middle end) x.from x.to
        lying = shaped.1

        pub judge-contents : good_contents (record_on s (layout_of tag start x.middle end)) ≡ false → Judging s tag start end (Err BadContents)
        unfolding judge_alone
        judge-contents g = λ earlier. rw (le-leb 0x10 tag k, le-leb tag 0x15 l, shaped.0, g)

        pub judge-good : good_contents (record_on s (layout_of tag start x.middle end)) ≡ true → Judging s tag start end (Ok x.middle)
        judge-good g = record { known = rw (le-leb 0x10 tag k, le-leb tag 0x15 l); parsed = shaped.0; placed = shaped.1.laid; good = g }
