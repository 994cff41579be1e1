-- How long the texts of a template are.
use Prim.Native.Nat.{ℕ, ◌+◌, ◌≤◌}
use mathlib.Core.Bool.{Bool, true, false, cond}
use mathlib.Core.List.{List, [], ◌++◌}
use native.Mathlib.Omega.{arith}
use lib.Dec.{eqb}
use lib.ListN.{length, length-append}
use Rattle.octets.specs.Ascii.{ascii}
use Rattle.formats.specs.declared.Format.{Format}
use Rattle.formats.specs.declared.Format.TheVariants.{Plain, Cisco, Bird, Juniper, Json}
use Rattle.formats.specs.Template.{Template, template_of, end_of}

pub record Short (l : Template) (name : List ℕ) : Type 0 where
  pub head : length l.head ≤ 42 + length name
  pub before : length l.before ≤ 25 + length name
  pub slash : length l.slash ≤ 2
  pub separator : length l.separator ≤ 20
  pub last : length l.last ≤ 20
  pub foot : length l.foot ≤ 5

-- a text before the name and one after it
around-most : (s name t : List ℕ) (n : ℕ) → length s + length t ≤ n → length (s ++ name ++ t) ≤ n + length name
around-most s name t n h = simp length-append (omega arith)

-- one of two texts before it
either-most : (b : Bool) (s t name u : List ℕ) (n : ℕ) → length s + length u ≤ n → length t + length u ≤ n → length (cond b (s ++ name ++ u) (t ++ name ++ u)) ≤ n + length name
either-most true s t name u n h k = around-most s name u n h
either-most false s t name u n h k = around-most t name u n k

pub short : (f : Format) (width : ℕ) (name : List ℕ) → Short (template_of f width name) name
unfolding template_of ascii
short Plain width name = record {
  head = omega arith;
  before = around-most [] name (ascii " ") 25 (omega arith);
  slash = omega arith;
  separator = omega arith;
  last = omega arith;
  foot = omega arith;
}
short Cisco width name = record {
  head = either-most (eqb width 4) (ascii "no ip prefix-list ") (ascii "no ipv6 prefix-list ") name (ascii "\n") 42 (omega arith) (omega arith);
  before = either-most (eqb width 4) (ascii "ip prefix-list ") (ascii "ipv6 prefix-list ") name (ascii " permit ") 25 (omega arith) (omega arith);
  slash = omega arith;
  separator = omega arith;
  last = omega arith;
  foot = omega arith;
}
short Bird width name = record {
  head = around-most [] name (ascii " = [\n") 42 (omega arith);
  before = omega arith;
  slash = omega arith;
  separator = omega arith;
  last = omega arith;
  foot = omega arith;
}
short Juniper width name = record {
  head = around-most (ascii "policy-options {\nreplace:\n prefix-list ") name (ascii " {\n") 42 (omega arith);
  before = omega arith;
  slash = omega arith;
  separator = omega arith;
  last = omega arith;
  foot = omega arith;
}
short Json width name = record {
  head = around-most (ascii "{ \"") name (ascii "\": [\n") 42 (omega arith);
  before = omega arith;
  slash = omega arith;
  separator = omega arith;
  last = omega arith;
  foot = omega arith;
}

module _ (l : Template) (name : List ℕ) (h : Short l name) where
  pub end-most : (left : ℕ) → length (end_of l left) ≤ 20
  unfolding end_of
  end-most left = go (eqb left 0)
    where
      go : (b : Bool) → length (cond b l.last l.separator) ≤ 20
      go true = h.last
      go false = h.separator
