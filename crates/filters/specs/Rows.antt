-- Serves contracts and proofs. The rows of a filter by entries of bytes, as the code reads them.
use Rattle.std.specs.Prelude.{ℕ, zero, suc, ◌+◌, List, [], ◌++◌, take, drop, get_or}
use Rattle.numeral.specs.Digits.{decimal_text}
use Rattle.ip_text.specs.Text.{text_of}
use Rattle.formats.specs.declared.Style.{Style}
use Rattle.formats.specs.Template.{end_of}
use Rattle.formats.specs.Styles.{template_at}

-- an address and its length
abbrev pub slashed : (slash address : List ℕ) (bits : ℕ) → List ℕ
slashed slash address bits = text_of address ++ slash ++ decimal_text bits

abbrev pub row_text : (style : Style) (before address : List ℕ) (bits left : ℕ) → List ℕ
row_text style before address bits left = before ++ slashed (template_at style []).slash address bits ++ end_of (template_at style []) left

-- the rows of so many entries: an address of so many bytes and its length
unfoldable pub entry_rows : (style : Style) (before : List ℕ) (width count : ℕ) (entries : List ℕ) → List ℕ
entry_rows style before width zero s = []
entry_rows style before width (suc n) s = row_text style before (take width s) (get_or s width 0) n ++ entry_rows style before width n (drop (width + 1) s)
