-- Laws of the answer of the address reader: what it is in each of its three cases, and what a caller learns from it.
-- An address that was read has four bytes or sixteen; the zeros before the four do not change its number.
use Rattle.std.specs.Prelude.{Option, None, Some}
use Prim.Native.Nat.{ℕ}
use Prim.Native.Char.{code}
use mathlib.Core.Path.{◌≡◌, refl, ap, subst, ◌∙◌}
use mathlib.Core.List.{List, ◌++◌}
use mathlib.Core.Bool.{Bool, true, false, cond}
use native.Mathlib.Omega.{arith}
use lib.Dec.{eqb}
use lib.ListN.{length, replicate}
use lib.Seq.{take_all}
use borrow.Author.Tests.{eqb-true, eqb-false}
use Rattle.octets.specs.Number.{value}
use Rattle.address.specs.Address.{number, address_at, number_at}
use Rattle.address.specs.declared.Address.{Address}
use Rattle.octets.specs.Split.{split}
use Rattle.ipv4.specs.Ipv4.{octets, ipv4}
use Rattle.ipv6.specs.Ipv6.{or_else, ipv6}
use Rattle.ip.specs.Ip.{without_zone, address_of}
use Rattle.ip.specs.Answer.{answer, width_of}
use Rattle.ipv4.proofs.Wide.{exactly-wide}
use Rattle.ipv6.proofs.Wide.{ipv6-wide}
use Rattle.ip.specs.declared.Family.TheVariants.{V4, V6}
use Rattle.ip.specs.declared.IpAddress.{IpAddress}

-- ---- the two families

-- IPv4 text is read first, as it stands
pub address-four : (s a : List ℕ) → ipv4 s ≡ Some a → address_of s ≡ Some a
unfolding address_of or_else
address-four s a e = ap (λ (o : Option (List ℕ)). or_else o (ipv6 (without_zone s))) e

-- any other as IPv6 text, without its zone
pub address-six : (s : List ℕ) → ipv4 s ≡ None → address_of s ≡ ipv6 (without_zone s)
unfolding address_of or_else
address-six s e = ap (λ (o : Option (List ℕ)). or_else o (ipv6 (without_zone s))) e

-- ---- the three cases

module _ (s : List ℕ) where
  -- the last four bytes, after twelve zeros
  pub answer-four : (four bytes : List ℕ) → ipv4 s ≡ Some four → length four ≡ 4 → bytes ≡ replicate 12 0 ++ four
      → Some (record { family = V4; address = record { bytes = bytes } }) ≡ answer (address_of s)
  unfolding answer
  answer-four four bytes e l b = rw (address-four s four e, l, take_all 4 four (omega arith), b)

  module _ (none-four : ipv4 s ≡ None) where
    pub answer-six : (six : List ℕ) → ipv6 (without_zone s) ≡ Some six
        → Some (record { family = V6; address = record { bytes = six } }) ≡ answer (address_of s)
    unfolding answer
    answer-six six e =
        let l : length six ≡ 16 = ipv6-wide (without_zone s) six e in
        rw (address-six s none-four, e, l, take_all 16 six (omega arith))

    pub answer-none : ipv6 (without_zone s) ≡ None → None ≡ answer (address_of s)
    unfolding answer
    answer-none e = rw (address-six s none-four, e)

-- ---- the number of bytes

either-wide : (o p : Option (List ℕ)) (a : List ℕ) → (o ≡ Some a → length a ≡ 4) → (p ≡ Some a → length a ≡ 16)
    → or_else o p ≡ Some a → (length a ≡ 4 → ⊥) → length a ≡ 16
unfolding or_else
either-wide None p a f g e h = g e
either-wide (Some x) p a f g e h = absurd (h (f e))

-- an address that has not four bytes has sixteen
pub address-wide : (s a : List ℕ) → address_of s ≡ Some a → (length a ≡ 4 → ⊥) → length a ≡ 16
unfolding address_of ipv4
address-wide s a e h = either-wide (ipv4 s) (ipv6 (without_zone s)) a (exactly-wide 4 (octets (split (code ".") s)) a) (ipv6-wide (without_zone s) a) e h

-- ---- what a caller learns

-- the text has an address of so many bytes, whose number is that of the address a
pub record Names (o : Option (List ℕ)) (width : ℕ) (a : Address) : Type 0 where
  pub bytes : List ℕ
  pub is : o ≡ Some bytes
  pub wide : length bytes ≡ width
  pub same : number a ≡ value bytes

number_of : (bytes : List ℕ) → number (address_at bytes 0 (length bytes)) ≡ value bytes
number_of bytes = number_at bytes 0 (length bytes) ∙ ap value (take_all (length bytes) bytes (omega arith))

named : (a : List ℕ) (b : Bool) → eqb (length a) 4 ≡ b → ((length a ≡ 4 → ⊥) → length a ≡ 16)
    → Names (Some a) (width_of (cond b V4 V6)) (address_at a 0 (length a))
named a true e wide = record { bytes = a; is = refl; wide = eqb-true (length a) 4 e; same = number_of a }
named a false e wide = record { bytes = a; is = refl; wide = wide (eqb-false (length a) 4 e); same = number_of a }

names_in : (o : Option (List ℕ)) (r : IpAddress) → ((a : List ℕ) → o ≡ Some a → (length a ≡ 4 → ⊥) → length a ≡ 16)
    → Some r ≡ answer o → Names o (width_of r.family) r.address
unfolding answer
names_in None r wide e = cc
names_in (Some a) r wide e =
    let is : record { family = cond (eqb (length a) 4) V4 V6; address = address_at a 0 (length a) } ≡ r = cc in
    subst (λ (x : IpAddress). Names (Some a) (width_of x.family) x.address) is (named a (eqb (length a) 4) refl (wide a refl))

pub names : (s : List ℕ) (r : IpAddress) → Some r ≡ answer (address_of s) → Names (address_of s) (width_of r.family) r.address
names s r e = names_in (address_of s) r (address-wide s) e

none_in : (o : Option (List ℕ)) → None ≡ answer o → o ≡ None
unfolding answer
none_in None e = refl
none_in (Some a) e = cc

pub names-none : (s : List ℕ) → None ≡ answer (address_of s) → address_of s ≡ None
names-none s e = none_in (address_of s) e
