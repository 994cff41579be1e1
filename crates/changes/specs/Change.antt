-- A change file (S4.8): a row of fields, each a change, applied in order to the records of an image (S2.8).
use Rattle.std.specs.Prelude.{◌≡◌, ◌↔◌, Bool, true, false, not, cond, ◌&&◌, List, [], ◌∷◌, ℕ, zero, suc, ◌+◌, ◌*◌, eqb, length, Option, None, Some}
use Rattle.registry.specs.Tags.{is_block, is_known, width_of, entity}
use Rattle.octets.specs.Lists.{filter, any}
use Rattle.address.specs.Ranges.{range_from, well_formed}
use Rattle.fields.specs.Field.{Head, field, short, head_of}
use Rattle.texts.specs.Texts.{good_text}
use Rattle.records.specs.Record.{Record, range_of, good_name, key_of, sorted_after, follows}
use Rattle.records.specs.Judge.{Judged, bad, good, judge}
use Rattle.rows.specs.Entry.{Entry, entry}

-- Keys

-- the same tag and the same key: neither is strictly after the other in the sorting
unfoldable pub same_key : Record → Record → Bool
same_key p r = eqb p.tag r.tag && not (sorted_after p r) && not (sorted_after r p)

-- the same range, or the same name or handle
abbrev pub Agree : Bool → Record → Record → Type 0
Agree true p r = range_of p ≡ range_of r
Agree false p r = key_of p ≡ key_of r

-- what same_key says, proved in proofs/Keys.antt
abbrev pub SameKeys : Type 0
SameKeys = (p r : Record) → (same_key p r ≡ true) ↔ ((p.tag ≡ r.tag) × Agree (is_block r.tag) p r)

-- a record of which only the key is known
abbrev pub keyed : ℕ → List ℕ → Record
keyed tag key = record { tag = tag; range = key; handle = key; name = key; status = [] }

-- the bare key of a tag: range, name or handle
unfoldable pub good_key : ℕ → List ℕ → Bool
good_key tag key =
    cond (is_block tag) (eqb (length key) (2 * width_of tag) && well_formed (range_from (width_of tag) key))
    (cond (eqb tag entity) (good_text 0x21 key) (good_name tag key))

-- A change by itself

pub data Change : Type 0 where
  add : Entry → Change
  remove : Record → Change
  malformed : Change

abbrev pub add_judged : List ℕ → Judged → Change
add_judged bytes (bad defect) = malformed
add_judged bytes (good r) = add (entry r bytes)

-- 30 holds a whole record to add: no defect 3, 4 or 5, and no bytes after it. After no record there are no other defects.
abbrev pub add_of : List ℕ → Head → Change
add_of bytes short = malformed
add_of bytes (field tag contents []) = add_judged bytes (judge [] tag contents)
add_of bytes (field tag contents (b ∷ rest)) = malformed

-- 31 holds a record tag's byte, then the bare key of one to remove.
abbrev pub remove_of : List ℕ → Change
remove_of [] = malformed
remove_of (tag ∷ key) = cond (is_known tag && good_key tag key) (remove (keyed tag key)) malformed

unfoldable pub change_of : ℕ → List ℕ → Change
change_of tag contents = cond (eqb tag 0x30) (add_of contents (head_of contents)) (cond (eqb tag 0x31) (remove_of contents) malformed)

-- A change applied to the records, in order of their keys

abbrev pub is_there : Record → List Entry → Bool
is_there r es = any (λ (e : Entry). same_key e.parsed r) es

-- an added record takes its sorted place
unfoldable pub insert : Entry → List Entry → List Entry
insert e [] = e ∷ []
insert e (x ∷ es) = cond (follows x.parsed e.parsed) (x ∷ insert e es) (e ∷ x ∷ es)

abbrev pub without : Record → List Entry → List Entry
without r es = filter (λ (e : Entry). not (same_key e.parsed r)) es

-- none if it is malformed, removes what isn't there or adds a key already there
abbrev pub applied : Change → List Entry → Option (List Entry)
applied malformed es = None
applied (add e) es = cond (is_there e.parsed es) None (Some (insert e es))
applied (remove r) es = cond (is_there r es) (Some (without r es)) None

-- The changes of a file, one after another

-- the records after them, or the byte offset of the first that cannot be applied
pub data Changed : Type 0 where
  done : List Entry → Changed
  refused_at : ℕ → Changed

-- n bytes further on
abbrev pub later : ℕ → Changed → Changed
later n (done es) = done es
later n (refused_at offset) = refused_at (n + offset)

abbrev pub after_applied : Option (List Entry) → ℕ → (List Entry → Changed) → Changed
after_applied None size onward = refused_at 0
after_applied (Some es) size onward = later size (onward es)

abbrev pub after_head : List Entry → Head → (List Entry → List ℕ → Changed) → Changed
after_head es short onward = refused_at 0
after_head es (field tag contents rest) onward = after_applied (applied (change_of tag contents) es) (3 + length contents) λ next. onward next rest

-- at most n changes may still come
unfoldable pub changes_from : ℕ → List Entry → List ℕ → Changed
changes_from zero es [] = done es
changes_from zero es (b ∷ bs) = refused_at 0
changes_from (suc n) es [] = done es
changes_from (suc n) es (b ∷ bs) = after_head es (head_of (b ∷ bs)) λ next rest. changes_from n next rest

-- a file has no more changes than bytes
unfoldable pub changes_of : List Entry → List ℕ → Changed
changes_of es changes = changes_from (length changes) es changes
