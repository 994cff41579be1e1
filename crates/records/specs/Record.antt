-- A record, and the rules on one record or two (S4.3 to S4.6; S5.1: defects 4 to 7).
use Rattle.std.specs.Prelude.{Bool, true, false, not, cond, ◌&&◌, ◌||◌, List, [], ◌∷◌, ℕ, ◌*◌, leb, ltb, eqb, length}
use Rattle.registry.specs.Tags.{domain, entity, nameserver, is_block, width_of}
use Rattle.octets.specs.Lists.{within}
use Rattle.octets.specs.Number.{value, at_most}
use Rattle.address.specs.Ranges.{Range, range_from, well_formed, sorts_after, crosses}
use Rattle.fields.specs.Field.{Head, field, short, head_of}
use Rattle.texts.specs.Texts.{good_text, good_host}

-- the contents of a record's fields 20 to 23; a record that has no 20 and 23 has none there
pub record Record : Type 0 where
  pub tag : ℕ
  pub range : List ℕ
  pub handle : List ℕ
  pub name : List ℕ
  pub status : List ℕ

abbrev pub range_of : Record → Range
range_of r = range_from (width_of r.tag) r.range

abbrev pub first_of : Record → ℕ
first_of r = (range_of r).first

abbrev pub last_of : Record → ℕ
last_of r = (range_of r).last

-- Defect 4

pub data Parsed : Type 0 where
  whole : Record → Parsed
  malformed : Parsed

abbrev pub is_whole : Parsed → Bool
is_whole (whole r) = true
is_whole malformed = false

-- a row that starts with a field of this tag, and what is made of its contents and of the rest
abbrev pub following : Head → ℕ → (List ℕ → List ℕ → Parsed) → Parsed
following short tag next = malformed
following (field t contents rest) tag next = cond (eqb t tag) (next contents rest) malformed

abbrev pub starting : ℕ → List ℕ → (List ℕ → List ℕ → Parsed) → Parsed
starting tag bytes next = following (head_of bytes) tag next

abbrev pub ending : List ℕ → Parsed → Parsed
ending [] p = p
ending (b ∷ bs) p = malformed

-- S4.3: each record is a field whose contents are fields, all present, once each, in the order shown.
unfoldable pub record_of : ℕ → List ℕ → Parsed
record_of tag contents =
    cond (is_block tag)
    (starting 0x20 contents λ range rest. starting 0x21 rest λ handle rest. starting 0x22 rest λ name rest. starting 0x23 rest λ status rest.
    ending rest
    (cond (eqb (length range) (2 * width_of tag) && eqb (length status) 1)
    (whole (record { tag = tag; range = range; handle = handle; name = name; status = status })) malformed))
    (starting 0x21 contents λ handle rest. starting 0x22 rest λ name rest.
    ending rest (whole (record { tag = tag; range = []; handle = handle; name = name; status = [] })))

-- Defect 5

-- records 13 and 14 are named by a host name
unfoldable pub good_name : ℕ → List ℕ → Bool
good_name tag name = cond (within domain nameserver tag) (good_host name) (good_text 0x20 name)

-- S4.3: 21 is a handle, 22 a name
abbrev pub good_texts : Record → Bool
good_texts r = good_text 0x21 r.handle && good_name r.tag r.name

-- S4.3: 23 is 1 or 0, and first is not above last. A record without 20 and 23 has no bytes there, which are 0.
abbrev pub good_block : Record → Bool
good_block r = leb (value r.status) 1 && well_formed (range_of r)

unfoldable pub good_contents : Record → Bool
good_contents r = good_texts r && good_block r

-- Defect 6

-- what a record that is no block is sorted by
abbrev pub key_of : Record → List ℕ
key_of r = cond (eqb r.tag entity) r.handle r.name

-- of one tag, r strictly after p in the sorting: blocks by first ascending, then last descending
unfoldable pub sorted_after : Record → Record → Bool
sorted_after p r = cond (is_block r.tag) (sorts_after (range_of p) (range_of r)) (not (at_most (key_of r) (key_of p)))

-- S4.6: not defect 6: the tag is not lower than its predecessor's, and the same tag is strictly after it in the sorting.
unfoldable pub follows : Record → Record → Bool
follows p r = ltb p.tag r.tag || (eqb p.tag r.tag && sorted_after p r)

-- Defect 7

-- r is a block that overlaps the earlier block e of its tag without lying inside it
unfoldable pub crosses_block : Record → Record → Bool
crosses_block e r = is_block r.tag && eqb e.tag r.tag && crosses (range_of e) (range_of r)
