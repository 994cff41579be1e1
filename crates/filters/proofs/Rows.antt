-- The rows of a filter: by prefixes, as they are defined, and by entries of bytes, as the code reads them.
use Prim.Native.Nat.{ℕ, zero, suc, ◌+◌, ◌-◌, ◌*◌, ◌<◌}
use mathlib.Core.Path.{◌≡◌, refl, ◌∙◌}
use mathlib.Core.List.{List, [], ◌∷◌, ◌++◌, append_assoc}
use native.Mathlib.Omega.{arith}
use lib.ListN.{length, take, drop, get_or, length-append, get_or-append}
use lib.Seq.{take_at, drop_at, get_or_at, take-append-le}
use Rattle.cidr.specs.Prefixes.{Prefix}
use Rattle.prefix_bytes.specs.Entry.{big_endian, entry_of, entries_of}
use Rattle.prefix_bytes.proofs.Bytes.{length-bytes}
use Rattle.formats.specs.declared.Style.{Style}
use Rattle.formats.specs.Template.{Template}
use Rattle.formats.proofs.Styles.{same_slash, same_end}
use Rattle.filters.specs.Filter.{prefix_text, rows_of}
use Rattle.formats.specs.Styles.{template_at}
use Rattle.filters.specs.Rows.{row_text, entry_rows}
use Rattle.output.proofs.Writing.{Parted}

first-row : (style : Style) (before : List ℕ) (width n : ℕ) (s : List ℕ)
    → entry_rows style before width (suc n) s ≡ row_text style before (take width s) (get_or s width 0) n ++ entry_rows style before width n (drop (width + 1) s)
unfolding entry_rows
first-row style before width n s = refl

pub no_rows : (style : Style) (before : List ℕ) (width : ℕ) (s : List ℕ) → entry_rows style before width 0 s ≡ []
unfolding entry_rows
no_rows style before width s = refl

-- Where so many entries are left: less than one, or one and what follows it
module _ (width : ℕ) where
  pub none-left : (left : ℕ) {n : ℕ} → n ≡ left * (width + 1) → n < width + 1 → left ≡ 0
  none-left zero e h = refl
  none-left (suc k) e h = absurd (omega (arith, e, h))

  pub some-left : (entry rest : List ℕ) (left : ℕ) → length entry ≡ width + 1 → length (entry ++ rest) ≡ left * (width + 1)
      → (0 < left) × (length rest ≡ (left - 1) * (width + 1))
  some-left entry rest zero e h = absurd (omega (arith, length-append entry rest, e, h))
  some-left entry rest (suc n) e h =
      let z : suc n - 1 ≡ n = omega arith in
      (omega arith, rw z (omega (arith, length-append entry rest, e, h)))

-- One row more
pub row_next :
    (style : Style) (before : List ℕ) (width : ℕ) (entry rest : List ℕ) (left : ℕ) → length entry ≡ width + 1 → 0 < left →
    Parted (entry_rows style before width left (entry ++ rest)) (row_text style before (take width entry) (get_or entry width 0) (left - 1))
    (entry_rows style before width (left - 1) rest)
row_next style before width entry rest zero e h = absurd (omega arith)
row_next style before width entry rest (suc n) e h =
    let z : suc n - 1 ≡ n = omega arith in
    let f = first-row style before width n (entry ++ rest) in
    record { is = rw z (rw (take-append-le width entry rest (omega (arith, e)), get_or-append entry rest 0 width (omega (arith, e)), drop_at entry rest (width + 1) e) at f) }

-- the entries of prefixes, whatever follows them
module _ (style : Style) (width : ℕ) (name : List ℕ) where
  abbrev l : Template
  l = template_at style name

  module _ (p : Prefix) (rest : List ℕ) where
    abbrev address : List ℕ
    address = big_endian width p.first

    abbrev bits : ℕ
    bits = 8 * width - p.free

    abbrev entry : List ℕ
    entry = address ++ (bits ∷ [])

    joined : entry ++ rest ≡ address ++ (bits ∷ rest)
    joined = append_assoc address (bits ∷ []) rest

    entry-address : take width (entry ++ rest) ≡ address
    entry-address = rw joined (take_at address (bits ∷ rest) width (length-bytes width p.first))

    entry-bits : get_or (entry ++ rest) width 0 ≡ bits
    entry-bits = rw joined (get_or_at address bits rest 0 width (length-bytes width p.first))

    entry-rest : drop (width + 1) (entry ++ rest) ≡ rest
    entry-rest = drop_at entry rest (width + 1) (length-append address (bits ∷ []) ∙ omega (arith, length-bytes width p.first))

  pub rows_are : (ps : List Prefix) (rest : List ℕ) → entry_rows style l.before width (length ps) (entries_of width ps ++ rest) ≡ rows_of l width ps
  unfolding entry_rows entries_of entry_of rows_of prefix_text
  rows_are [] rest = refl
  rows_are (p ∷ ps) rest =
      let e : entries_of width (p ∷ ps) ++ rest ≡ entry p rest ++ (entries_of width ps ++ rest) = append_assoc (entry p rest) (entries_of width ps) rest in
      rw (e, entry-address p (entries_of width ps ++ rest), entry-bits p (entries_of width ps ++ rest), entry-rest p (entries_of width ps ++ rest), rows_are ps rest, same_slash style name, same_end style name (length ps))
