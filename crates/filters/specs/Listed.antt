-- Serves contracts and proofs. The texts of listed prefixes.
use Rattle.std.specs.Prelude.{ℕ, ◌≤◌, List, [], ◌++◌, length}
use Rattle.formats.specs.declared.Style.{Style}
use Rattle.formats.specs.Styles.{template_at}
use Rattle.filters.specs.declared.Listed.{Listed}
use Rattle.filters.specs.Rows.{entry_rows}

-- the rows of listed prefixes
abbrev pub rows_in : Listed → (before : List ℕ) → List ℕ
rows_in l before = entry_rows l.style before l.width l.count l.entries.now

-- head, rows and foot
abbrev pub entries_text : Listed → (name : List ℕ) → List ℕ
entries_text l name =
    (template_at l.style name).head ++ rows_in l (template_at l.style name).before ++ (template_at l.style []).foot

-- what stands before each prefix fits in the buffer for it
abbrev pub BeforeFits : (style : Style) (name : List ℕ) → Type 0
BeforeFits style name = length (template_at style name).before ≤ 89
