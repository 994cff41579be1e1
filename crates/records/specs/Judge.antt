-- A record judged against the earlier ones: its lowest defect (S5.1).
use Rattle.std.specs.Prelude.{Bool, true, false, cond, ◌||◌, List, [], ◌∷◌, ℕ}
use Rattle.registry.specs.Tags.{is_known}
use Rattle.records.specs.Record.{Record, Parsed, whole, malformed, record_of, good_contents, follows, crosses_block}

-- a record's lowest defect, or the record
pub data Judged : Type 0 where
  bad : ℕ → Judged
  good : Record → Judged

-- `earlier` is the records before it, the latest first. Rule 6 looks at its predecessor, rule 7 at all of them.

unfoldable pub in_order : List Record → Record → Bool
in_order [] r = true
in_order (p ∷ earlier) r = follows p r

unfoldable pub crosses_any : List Record → Record → Bool
crosses_any [] r = false
crosses_any (e ∷ earlier) r = crosses_block e r || crosses_any earlier r

-- defects 4 to 6, the lowest number first
abbrev pub judge_parsed : List Record → Parsed → Judged
judge_parsed earlier malformed = bad 4
judge_parsed earlier (whole r) = cond (good_contents r) (cond (in_order earlier r) (good r) (bad 6)) (bad 5)

-- defect 3 comes before them: unknown tag
unfoldable pub judge_alone : List Record → ℕ → List ℕ → Judged
judge_alone earlier tag contents = cond (is_known tag) (judge_parsed earlier (record_of tag contents)) (bad 3)

-- defect 7
abbrev pub judge_overlap : List Record → Judged → Judged
judge_overlap earlier (bad defect) = bad defect
judge_overlap earlier (good r) = cond (crosses_any earlier r) (bad 7) (good r)

abbrev pub judge : List Record → ℕ → List ℕ → Judged
judge earlier tag contents = judge_overlap earlier (judge_alone earlier tag contents)
