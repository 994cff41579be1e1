-- The names and the templates of router filters, as bgpq4 writes them (S12.7).
use Rattle.std.specs.Prelude.{ℕ, suc, Bool, true, cond, not, ◌&&◌, ◌||◌, List, [], ◌∷◌, ◌++◌, eqb}
use Prim.Native.Char.{code}
use Prim.Native.String.{String}
use Rattle.octets.specs.Lists.{within, contains}
use Rattle.octets.specs.Ascii.{ascii, is_alphanumeric}
use Rattle.formats.specs.declared.Format.{Format}
use Rattle.formats.specs.declared.Format.TheVariants.{Plain, Cisco, Bird, Juniper, Json}

-- S12.7: whether a name of the format may have the byte c at place i
unfoldable pub is_allowed : Format → (i c : ℕ) → Bool
is_allowed Plain i c = true
is_allowed Cisco i c = is_alphanumeric c || contains c (ascii "-_.")
is_allowed Bird i c = not (eqb i 0 && within (code "0") (code "9") c) && (is_alphanumeric c || contains c (ascii "_"))
is_allowed Juniper i c = is_alphanumeric c || contains c (ascii "-_.")
is_allowed Json i c = not (contains c (ascii "\"\\"))

unfoldable pub name_from : Format → ℕ → List ℕ → List ℕ
name_from f i [] = []
name_from f i (c ∷ s) = cond (is_allowed f i c) c (code "_") ∷ name_from f (suc i) s

-- S12.7: the name of a filter is the handle, each byte that the format does not allow replaced by `_`
unfoldable pub name_in : Format → (handle : List ℕ) → List ℕ
name_in f handle = name_from f 0 handle

-- The texts around the prefixes of a filter.
pub record Template : Type 0 where
  -- before the first prefix
  pub head : List ℕ
  -- before each prefix
  pub before : List ℕ
  -- between an address and its length
  pub slash : List ℕ
  -- after each prefix but the last
  pub separator : List ℕ
  -- after the last prefix
  pub last : List ℕ
  -- at the end
  pub foot : List ℕ

abbrev pub around : String → List ℕ → String → List ℕ
around front name back = ascii front ++ name ++ ascii back

-- S12.7: by the format, the bytes of an address and the name
unfoldable pub template_of : Format → (width : ℕ) (name : List ℕ) → Template
template_of Plain width name = record {
  head = [];
  before = around "" name " ";
  slash = ascii "/";
  separator = ascii "\n";
  last = ascii "\n";
  foot = [];
}
template_of Cisco width name = record {
  head = cond (eqb width 4) (around "no ip prefix-list " name "\n") (around "no ipv6 prefix-list " name "\n");
  before = cond (eqb width 4) (around "ip prefix-list " name " permit ") (around "ipv6 prefix-list " name " permit ");
  slash = ascii "/";
  separator = ascii "\n";
  last = ascii "\n";
  foot = [];
}
template_of Bird width name = record {
  head = around "" name " = [\n";
  before = ascii "    ";
  slash = ascii "/";
  separator = ascii ",\n";
  last = ascii "\n";
  foot = ascii "];\n";
}
template_of Juniper width name = record {
  head = around "policy-options {\nreplace:\n prefix-list " name " {\n";
  before = ascii "    ";
  slash = ascii "/";
  separator = ascii ";\n";
  last = ascii ";\n";
  foot = ascii " }\n}\n";
}
template_of Json width name = record {
  head = around "{ \"" name "\": [\n";
  before = ascii "    { \"prefix\": \"";
  slash = ascii "\\/";
  separator = ascii "\", \"exact\": true },\n";
  last = ascii "\", \"exact\": true }\n";
  foot = ascii "] }\n";
}

-- what follows a prefix, by how many are left
unfoldable pub end_of : Template → (left : ℕ) → List ℕ
end_of l left = cond (eqb left 0) l.last l.separator
