-- Serves contracts and proofs. The judgement on one record by itself.
use Rattle.std.specs.Prelude.{◌≡◌, Result, Ok, Err, List, ℕ}
use Rattle.std.proofs.Math.Seq.{slice}
use Rattle.records.specs.Record.{Record}
use Rattle.records.specs.Judge.{bad, judge_alone}
use Rattle.registry.specs.declared.Defect.{Defect}
use Rattle.registry.specs.Defects.{defect_number}
use Rattle.records.specs.Layout.{layout_of, Readable}

-- Defects 3 to 5, whatever the earlier records are
abbrev pub Judging : List ℕ → ℕ → ℕ → ℕ → Result ℕ Defect → Type 0
Judging s tag start end (Err defect) = (earlier : List Record) → judge_alone earlier tag (slice start end s) ≡ bad (defect_number defect)
Judging s tag start end (Ok middle) = Readable s (layout_of tag start middle end)
