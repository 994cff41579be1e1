-- Router filters: the prefixes of a network in a template (S12.7).
use Rattle.std.specs.Prelude.{ℕ, ◌+◌, ◌-◌, ◌*◌, cond, ◌||◌, List, [], ◌∷◌, ◌++◌, ltb, length, Option, None, Some}
use Rattle.numeral.specs.Digits.{decimal_text}
use Rattle.cidr.specs.Prefixes.{Prefix}
use Rattle.prefix_bytes.specs.Entry.{big_endian}
use Rattle.prefixes.specs.Call.{IpRange, ip_range_of, prefixes_in}
use Rattle.ip_text.specs.Text.{text_of}
use Rattle.formats.specs.declared.Format.{Format}
use Rattle.formats.specs.Template.{Template, name_in, template_of, end_of}

-- a prefix of addresses of so many bytes
unfoldable pub prefix_text : (slash : List ℕ) (width : ℕ) → Prefix → List ℕ
prefix_text slash width p = text_of (big_endian width p.first) ++ slash ++ decimal_text (8 * width - p.free)

unfoldable pub rows_of : Template → (width : ℕ) → List Prefix → List ℕ
rows_of l width [] = []
rows_of l width (p ∷ ps) = l.before ++ prefix_text l.slash width p ++ end_of l (length ps) ++ rows_of l width ps

unfoldable pub laid_out : Template → IpRange → List ℕ
laid_out l a = l.head ++ rows_of l a.width (prefixes_in a) ++ l.foot

unfoldable pub network_text : Format → (handle : List ℕ) → Option IpRange → List ℕ
network_text f handle None = []
network_text f handle (Some a) = laid_out (template_of f a.width (name_in f handle)) a

-- S12.7: the filter of a network with this handle and this range of bytes
unfoldable pub filter_text : Format → (handle range : List ℕ) → List ℕ
filter_text f handle range = network_text f handle (ip_range_of range)

-- S4.3: a handle has at most so many bytes
abbrev pub handle_most : ℕ
handle_most = 64

-- bytes that every filter fits into: head and foot, and for each of at most 254 prefixes what stands before it, an address of at most
-- 39 bytes, the slash, a length of at most 3 digits, and what stands after it
abbrev pub room : ℕ
room = (42 + handle_most) + 254 * ((25 + handle_most) + 39 + 2 + 3 + 20) + 5

-- What is written to a buffer of so many bytes: the filter, if every filter fits, else nothing.
unfoldable pub text_in : Format → (handle range : List ℕ) → ℕ → List ℕ
text_in f handle range size = cond (ltb size room || ltb handle_most (length handle)) [] (filter_text f handle range)
