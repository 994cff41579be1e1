-- An address that was read is made of bytes.
use Rattle.std.specs.Prelude.{Option, None, Some}
use Prim.Native.Nat.{ℕ, ◌+◌, ◌-◌, ◌/◌, ◌%◌, ◌≤◌}
use Prim.Native.Char.{code}
use mathlib.Core.Path.{◌≡◌, refl, subst}
use mathlib.Core.List.{List, [], ◌∷◌, ◌++◌}
use mathlib.Core.Bool.{Bool, true, false, cond}
use native.Mathlib.Omega.{arith}
use lib.Dec.{eqb, leb, ltb}
use lib.ListN.{length, take, drop, replicate}
use Rattle.octets.specs.Number.{Bytes}
use Rattle.octets.proofs.Below.{digits-none, digits-cons, digits_append, digits-zeros}
use Rattle.numeral.specs.Numeral.{decimal, h16}
use Rattle.numeral.proofs.Laws.{decimal_le, h16_le}
use Rattle.octets.specs.Split.{split}
use Rattle.octets.proofs.Found.{none-some, cond-some}
use Rattle.ipv4.specs.Ipv4.{prefixed, joined, exactly, one_byte, octets, ipv4}
use Rattle.elision.specs.Elision.{elided, elision}
use Rattle.ipv6.specs.Ipv6.{two_bytes, group, or_else, last_group, groups, side, ipv6}
use Rattle.ip.specs.Ip.{without_zone, address_of}

pub some_is : {x y : List ℕ} → ◌≡◌ {A = Option (List ℕ)} (Some x) (Some y) → x ≡ y
some_is e = cc

-- whatever is answered is made of bytes
abbrev OfBytes : Option (List ℕ) → Type 0
OfBytes o = (a : List ℕ) → o ≡ Some a → Bytes a

by_bytes : {x a : List ℕ} → Bytes x → ◌≡◌ {A = Option (List ℕ)} (Some x) (Some a) → Bytes a
by_bytes b e = subst Bytes (some_is e) b

none-bytes : OfBytes None
none-bytes a e = none-some a e

prefixed-bytes : (x : List ℕ) (o : Option (List ℕ)) → Bytes x → OfBytes o → OfBytes (prefixed x o)
unfolding prefixed
prefixed-bytes x None b f = none-bytes
prefixed-bytes x (Some y) b f = λ a e. by_bytes (digits_append 256 x y b (f y refl)) e

joined_bytes : (o p : Option (List ℕ)) → OfBytes o → OfBytes p → OfBytes (joined o p)
unfolding joined
joined_bytes None p f g = none-bytes
joined_bytes (Some x) p f g = prefixed-bytes x p (f x refl) g

exactly-bytes : (n : ℕ) (o : Option (List ℕ)) → OfBytes o → OfBytes (exactly n o)
unfolding exactly
exactly-bytes n None f = none-bytes
exactly-bytes n (Some x) f = λ a e. subst Bytes (cond-some (eqb (length x) n) x a e).1 (f x refl)

either-bytes : (o p : Option (List ℕ)) → OfBytes o → OfBytes p → OfBytes (or_else o p)
unfolding or_else
either-bytes None p f g = g
either-bytes (Some x) p f g = f

octet_bytes : (p : List ℕ) → OfBytes (one_byte (decimal 255 p))
unfolding one_byte
octet_bytes p = by_value (decimal 255 p) refl
  where
    by_value : (n : Option ℕ) → decimal 255 p ≡ n → OfBytes (one_byte n)
    by_value None q = none-bytes
    by_value (Some v) q = λ a e. by_bytes (digits-cons 256 v [] (omega (arith, decimal_le 255 p v q)) (digits-none 256)) e

octets-bytes : (ps : List (List ℕ)) → OfBytes (octets ps)
unfolding octets
octets-bytes [] = λ a e. by_bytes (digits-none 256) e
octets-bytes (p ∷ ps) = joined_bytes (one_byte (decimal 255 p)) (octets ps) (octet_bytes p) (octets-bytes ps)

ipv4-bytes : (s : List ℕ) → OfBytes (ipv4 s)
unfolding ipv4
ipv4-bytes s = exactly-bytes 4 (octets (split (code ".") s)) (octets-bytes (split (code ".") s))

group-bytes : (p : List ℕ) → OfBytes (group p)
unfolding group two_bytes
group-bytes p = by_value (h16 p) refl
  where
    by_value : (n : Option ℕ) → h16 p ≡ n → OfBytes (two_bytes n)
    by_value None q = none-bytes
    by_value (Some v) q = λ a e.
        let h : v ≤ 65535 = h16_le p v q in
        by_bytes (digits-cons 256 (v / 256) (v % 256 ∷ []) (omega arith) (digits-cons 256 (v % 256) [] (omega arith) (digits-none 256))) e

last-bytes : (tail : Bool) (p : List ℕ) → OfBytes (last_group tail p)
unfolding last_group
last-bytes true p = either-bytes (group p) (ipv4 p) (group-bytes p) (ipv4-bytes p)
last-bytes false p = group-bytes p

groups-bytes : (tail : Bool) (ps : List (List ℕ)) → OfBytes (groups tail ps)
unfolding groups
groups-bytes tail [] = none-bytes
groups-bytes tail (p ∷ []) = last-bytes tail p
groups-bytes tail (p ∷ q ∷ ps) = joined_bytes (group p) (groups tail (q ∷ ps)) (group-bytes p) (groups-bytes tail (q ∷ ps))

side-bytes : (tail : Bool) (s : List ℕ) → OfBytes (side tail s)
unfolding side
side-bytes tail [] = λ a e. by_bytes (digits-none 256) e
side-bytes tail (c ∷ s) = groups-bytes tail (split (code ":") (c ∷ s))

elided-bytes : (o p : Option (List ℕ)) → OfBytes o → OfBytes p → OfBytes (elided o p)
unfolding elided
elided-bytes None p f g = none-bytes
elided-bytes (Some x) None f g = none-bytes
elided-bytes (Some x) (Some y) f g = λ a e.
    let k : ℕ = 16 - (length x + length y) in
    subst Bytes (cond-some (leb (length x + length y) 14) (x ++ replicate k 0 ++ y) a e).1
    (digits_append 256 (x ++ replicate k 0) y (digits_append 256 x (replicate k 0) (f x refl) (digits-zeros 256 k (omega arith))) (g y refl))

ipv6-bytes : (s : List ℕ) → OfBytes (ipv6 s)
unfolding ipv6
ipv6-bytes s = by-elision (ltb (elision s) (length s))
  where
    by-elision : (b : Bool) → OfBytes (cond b (elided (side false (take (elision s) s)) (side true (drop (elision s + 2) s))) (exactly 16 (groups true (split (code ":") s))))
    by-elision true = elided-bytes _ _ (side-bytes false (take (elision s) s)) (side-bytes true (drop (elision s + 2) s))
    by-elision false = exactly-bytes 16 (groups true (split (code ":") s)) (groups-bytes true (split (code ":") s))

pub address-bytes : (s : List ℕ) → OfBytes (address_of s)
unfolding address_of
address-bytes s = either-bytes (ipv4 s) (ipv6 (without_zone s)) (ipv4-bytes s) (ipv6-bytes (without_zone s))
