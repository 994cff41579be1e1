-- Reading the written form gives the address back; so spellings of one address, and no others, have one written form.
use Rattle.std.specs.Prelude.{None, Some, Ok}
use Prim.Native.Nat.{ℕ, zero, suc, ◌+◌, ◌-◌, ◌*◌, ◌/◌, ◌%◌, ◌≤◌, ◌<◌}
use mathlib.Core.Path.{◌≡◌, refl, sym, ap, ◌∙◌}
use mathlib.Core.List.{List, [], ◌∷◌, ◌++◌, append_assoc}
use mathlib.Core.Bool.{Bool, true, false, cond, ◌&&◌, ◌||◌}
use native.Mathlib.Omega.{arith}
use native.Mathlib.Decide.{ℕ_discrete}
use lib.Dec.{eqb, leb, ltb}
use lib.ListN.{length, get_or, take, drop, replicate, length-drop}
use lib.Seq.{drop-cons, take_at}
use borrow.Author.Tests.{eqb-true, le-leb, lt-leb, leb-true}
use Rattle.octets.specs.Lists.{contains}
use Rattle.octets.specs.Number.{Digits, Bytes}
use Rattle.octets.specs.Positions.{Wide}
use Rattle.octets.proofs.Below.{digits-none, digits-rest, digits-take, digits-drop}
use Rattle.octets.specs.Ascii.{ascii}
use Rattle.octets.specs.Split.{split}
use Rattle.octets.proofs.Cuts.{split_then, split-whole, contains-known}
use Rattle.octets.proofs.Found.{none-some}
use Rattle.numeral.specs.Numeral.{digit_value, h16}
use Rattle.numeral.specs.Digits.{hex_text, following, spelled}
use Rattle.numeral.proofs.Spelled.{spelled_least, spelled_lacks}
use Rattle.ipv4.specs.Ipv4.{prefixed, joined, ipv4}
use Rattle.elision.specs.Elision.{elided}
use Rattle.ipv6.specs.Ipv6.{two_bytes, group, or_else, last_group, groups, side, ipv6}
use Rattle.ip.specs.Ip.{address_of}
use Rattle.ip.proofs.Answers.{address-four, address-wide}
use Rattle.ipv4.proofs.Foreign.{ipv4-not}
use Rattle.ipv6.proofs.Foreign.{ipv6-not}
use Rattle.ip.proofs.Zones.{zones}
use Rattle.ip_groups.specs.Groups.{groups_of, zeros_first, longest_run, run_at}
use Rattle.ip_text.specs.Text.{dotted, colons, shortened, is_mapped, ipv6_text, text_of}
use Rattle.ip_groups.specs.Runs.{bytes_of}
use Rattle.ip_groups.proofs.Groups.{groups-count, groups-below}
use Rattle.ip_groups.proofs.Runs.{zeros-front, around-run, beside-run}
use Rattle.ip_text.proofs.Lengths.{ipv4-text, ipv6-text, text_most4, text_most16}
use Rattle.address_text.specs.Call.{is_address, written_of, text_after}
use Rattle.address_text.specs.Spelling.{WrittenForm}
use Rattle.address_text.specs.Computing.{computing}
use Rattle.address_text.proofs.Reading.{ipv4-read, side-read, bytes_count, ipv6-short, ipv6-full}
use Rattle.address_text.proofs.Read.{some_is, address-bytes}

-- ---- groups and bytes

bytes_append : (s t : List ℕ) → bytes_of (s ++ t) ≡ bytes_of s ++ bytes_of t
bytes_append [] t = refl
bytes_append (g ∷ s) t = ap (λ (r : List ℕ). g / 256 ∷ g % 256 ∷ r) (bytes_append s t)

bytes-zeros : (n : ℕ) → bytes_of (replicate n 0) ≡ replicate (n * 2) 0
bytes-zeros zero = refl
bytes-zeros (suc n) =
    let e : suc n * 2 ≡ suc (suc (n * 2)) = omega arith in
    rw e (ap (λ (r : List ℕ). 0 ∷ 0 ∷ r) (bytes-zeros n))

groups-bytes : (n : ℕ) (a : List ℕ) → Bytes a → length a ≡ n * 2 → bytes_of (groups_of a) ≡ a
unfolding groups_of
groups-bytes zero [] b e = refl
groups-bytes zero (x ∷ a) b e = absurd (omega arith)
groups-bytes (suc n) [] b e = absurd (omega arith)
groups-bytes (suc n) (x ∷ []) b e = absurd (omega arith)
groups-bytes (suc n) (x ∷ y ∷ a) b e =
    let low : y < 256 = b 1 (omega arith) in
    let p : (x * 256 + y) / 256 ≡ x = omega arith in
    let q : (x * 256 + y) % 256 ≡ y = omega arith in
    rw (p, q) (ap (λ (r : List ℕ). x ∷ y ∷ r) (groups-bytes n a (digits-rest 256 y a (digits-rest 256 x (y ∷ a) b)) (omega arith)))

-- ---- the shortened form

-- zeros between the sides of "::"
elided-zeros : (l r : List ℕ) (n : ℕ) → 1 ≤ n → length l + (n + length r) ≡ 8
    → elided (Some (bytes_of l)) (Some (bytes_of r)) ≡ Some (bytes_of (l ++ (replicate n 0 ++ r)))
unfolding elided
elided-zeros l r n h e =
    let few : length (bytes_of l) + length (bytes_of r) ≤ 14 = omega (arith, bytes_count l, bytes_count r) in
    let k : 16 - (length (bytes_of l) + length (bytes_of r)) ≡ n * 2 = omega (arith, bytes_count l, bytes_count r) in
    rw (le-leb (length (bytes_of l) + length (bytes_of r)) 14 few, k, bytes_append l (replicate n 0 ++ r), bytes_append (replicate n 0) r, bytes-zeros n)
    (ap Some (append_assoc (bytes_of l) (replicate (n * 2) 0) (bytes_of r)))

shortened-read : (gs : List ℕ) → Digits 65536 gs → length gs ≡ 8 → ipv6 (shortened gs) ≡ Some (bytes_of gs)
unfolding shortened ascii
shortened-read gs d e =
    by-run (leb 2 (longest_run gs)) refl (take (run_at (longest_run gs) gs) gs) (drop (run_at (longest_run gs) gs + longest_run gs) gs) (beside-run gs)
    (around-run (longest_run gs) gs (omega arith)) (digits-take 65536 (run_at (longest_run gs) gs) gs d) (digits-drop 65536 (run_at (longest_run gs) gs + longest_run gs) gs d)
  where
    by-run : (t : Bool) → leb 2 (longest_run gs) ≡ t → (l r : List ℕ) → length l + (longest_run gs + length r) ≡ length gs
        → gs ≡ l ++ (replicate (longest_run gs) 0 ++ r) → Digits 65536 l → Digits 65536 r → ipv6 (cond t (colons l ++ (58 ∷ 58 ∷ colons r)) (colons gs)) ≡ Some (bytes_of gs)
    by-run true q l r k s p c =
        let two : 2 ≤ longest_run gs = leb-true 2 (longest_run gs) q in
        ipv6-short l (colons r) p ∙ rw (side-read true r c) (elided-zeros l r (longest_run gs) (omega arith) (omega arith)) ∙ ap (λ (x : List ℕ). Some (bytes_of x)) (sym s)
    by-run false q l r k s p c = ipv6-full gs d e

-- ---- the dotted tail

dotted_lacks : (ns : List ℕ) → contains 58 (dotted ns) ≡ false
unfolding digit_value
dotted_lacks ns = spelled_lacks 46 10 (omega arith) (omega arith) 58 (omega arith) (λ e. omega arith) ns

-- no group has more than four digits
long-group : (s : List ℕ) → 4 < length s → group s ≡ None
unfolding group two_bytes h16
long-group s h = rw (lt-leb (length s) 4 h)

group_ffff : group (ascii "ffff") ≡ Some (255 ∷ 255 ∷ [])
unfolding computing
group_ffff = refl

ffff_lacks : contains 58 (ascii "ffff") ≡ false
unfolding computing
ffff_lacks = refl

dotted-long : (ns : List ℕ) → length ns ≡ 4 → 4 < length (dotted ns)
dotted-long [] e = absurd (omega arith)
dotted-long (n ∷ ns) e = omega (arith, spelled_least 46 10 (omega arith) (omega arith) n ns)

tail-read : (ns : List ℕ) → Bytes ns → length ns ≡ 4 → side true (ascii "ffff" ++ (58 ∷ dotted ns)) ≡ Some (255 ∷ 255 ∷ ns)
unfolding side groups joined prefixed last_group or_else ascii
tail-read ns b e =
    let pieces : split 58 (ascii "ffff" ++ (58 ∷ dotted ns)) ≡ ascii "ffff" ∷ dotted ns ∷ [] =
    split_then 58 (ascii "ffff") (dotted ns) ffff_lacks ∙ ap (λ (r : List (List ℕ)). ascii "ffff" ∷ r) (split-whole 58 (dotted ns) (dotted_lacks ns)) in
    rw (pieces, group_ffff, long-group (dotted ns) (dotted-long ns e), ipv4-read ns b e)

-- five zero groups and ffff, by bytes
mapped-bytes : (gs : List ℕ) → 5 < length gs → zeros_first gs ≡ 5 → get_or gs 5 0 ≡ 65535 → bytes_of gs ≡ replicate 10 0 ++ (255 ∷ 255 ∷ drop 12 (bytes_of gs))
mapped-bytes gs h p q =
    let e : gs ≡ replicate 5 0 ++ (65535 ∷ drop 6 gs) =
    zeros-front 5 gs (omega arith) ∙ ap (λ (r : List ℕ). replicate 5 0 ++ r) (drop-cons gs 5 0 h ∙ ap (λ (g : ℕ). g ∷ drop 6 gs) q) in
    let f : bytes_of gs ≡ replicate 10 0 ++ (255 ∷ 255 ∷ bytes_of (drop 6 gs)) = ap bytes_of e in
    f ∙ ap (λ (r : List ℕ). replicate 10 0 ++ (255 ∷ 255 ∷ r)) (sym (ap (drop 12) f))

elided-mapped : (r : List ℕ) → length r ≡ 6 → elided (Some []) (Some r) ≡ Some (replicate 10 0 ++ r)
unfolding elided
elided-mapped r e = let k : 0 + length r ≡ 6 = omega arith in rw k

mapped-read : (a : List ℕ) → Bytes a → length a ≡ 16 → zeros_first (groups_of a) ≡ 5 → get_or (groups_of a) 5 0 ≡ 65535
    → ipv6 (ascii "::ffff:" ++ dotted (drop 12 a)) ≡ Some a
unfolding ascii spelled
mapped-read a b e p q =
    let l : length (drop 12 a) ≡ 4 = omega (arith, length-drop 12 a) in
    let s : a ≡ replicate 10 0 ++ (255 ∷ 255 ∷ drop 12 a) =
    rw (groups-bytes 8 a b e) at (mapped-bytes (groups_of a) (omega (arith, groups-count 8 a e)) p q) in
    ipv6-short [] (ascii "ffff" ++ (58 ∷ dotted (drop 12 a))) (digits-none 65536)
    ∙ rw (tail-read (drop 12 a) (digits-drop 256 12 a b) l, elided-mapped (255 ∷ 255 ∷ drop 12 a) (omega arith)) (ap Some (sym s))

ipv6-read : (a : List ℕ) → Bytes a → length a ≡ 16 → ipv6 (ipv6_text a) ≡ Some a
unfolding ipv6_text is_mapped
ipv6-read a b e = by-prefix (eqb (zeros_first (groups_of a)) 5) (eqb (get_or (groups_of a) 5 0) 65535) refl refl
  where
    plain : ipv6 (shortened (groups_of a)) ≡ Some a
    plain = shortened-read (groups_of a) (groups-below a b) (groups-count 8 a e) ∙ ap Some (groups-bytes 8 a b e)

    by-prefix : (s t : Bool) → eqb (zeros_first (groups_of a)) 5 ≡ s → eqb (get_or (groups_of a) 5 0) 65535 ≡ t
        → ipv6 (cond (s && t) (ascii "::ffff:" ++ dotted (drop 12 a)) (shortened (groups_of a))) ≡ Some a
    by-prefix true true p q = mapped-read a b e (eqb-true _ _ p) (eqb-true _ _ q)
    by-prefix true false p q = plain
    by-prefix false t p q = plain

-- ---- by the reader of paths: a text with a colon is no IPv4 address, and no IPv6 address has a percent sign

colons_colon : (gs : List ℕ) → 2 ≤ length gs → contains 58 (colons gs) ≡ true
unfolding spelled following
colons_colon [] h = absurd (omega arith)
colons_colon (g ∷ []) h = absurd (omega arith)
colons_colon (g ∷ k ∷ gs) h = contains-known 58 (hex_text g) (hex_text k ++ following 58 16 gs)

ipv6_colon : (a : List ℕ) → length a ≡ 16 → contains 58 (ipv6_text a) ≡ true
unfolding ipv6_text shortened ascii contains
ipv6_colon a e = by_form (is_mapped (groups_of a)) (leb 2 (longest_run (groups_of a)))
  where
    left : List ℕ
    left = colons (take (run_at (longest_run (groups_of a)) (groups_of a)) (groups_of a))

    right : List ℕ
    right = colons (drop (run_at (longest_run (groups_of a)) (groups_of a) + longest_run (groups_of a)) (groups_of a))

    by_form : (b t : Bool) → contains 58 (cond b (ascii "::ffff:" ++ dotted (drop 12 a)) (cond t (left ++ (ascii "::" ++ right)) (colons (groups_of a)))) ≡ true
    by_form true t = refl
    by_form false true = contains-known 58 left (58 ∷ right)
    by_form false false = colons_colon (groups_of a) (omega (arith, groups-count 8 a e))

no_percent : (s a : List ℕ) → ipv6 s ≡ Some a → contains 37 s ≡ false
unfolding digit_value
no_percent s a e = by-test (contains 37 s) refl
  where
    by-test : (b : Bool) → contains 37 s ≡ b → b ≡ false
    by-test true q = none-some a (sym (ipv6-not 37 (omega arith) (λ z. omega arith) (omega arith) (λ z. omega arith) s q) ∙ e)
    by-test false q = refl

no-ipv4 : (s : List ℕ) → contains 58 s ≡ true → ipv4 s ≡ None
unfolding digit_value
no-ipv4 = ipv4-not 58 (omega arith) (λ z. omega arith)

back4 : (a : List ℕ) → Bytes a → length a ≡ 4 → address_of (text_of a) ≡ Some a
back4 a b e = rw (ipv4-text a e) (address-four (dotted a) a (ipv4-read a b e))

back16 : (a : List ℕ) → Bytes a → length a ≡ 16 → address_of (text_of a) ≡ Some a
unfolding or_else
back16 a b e =
    rw (ipv6-text a (λ p. omega arith))
    (zones.unzoned (ipv6_text a) (no_percent (ipv6_text a) a (ipv6-read a b e)) ∙ rw (no-ipv4 (ipv6_text a) (ipv6_colon a e)) (ipv6-read a b e))

back : (a : List ℕ) → Bytes a → Wide (length a) → address_of (text_of a) ≡ Some a
back a b w = by_width (ℕ_discrete (length a) 4)
  where
    by_width : Dec (length a ≡ 4) → address_of (text_of a) ≡ Some a
    by_width (yes e) = back4 a b e
    by_width (no n) = back16 a b (w.1 n)

-- what was read, written and read again
read_back : (s a : List ℕ) → address_of s ≡ Some a → address_of (text_of a) ≡ Some a
read_back s a e = by_width (ℕ_discrete (length a) 4)
  where
    by_width : Dec (length a ≡ 4) → address_of (text_of a) ≡ Some a
    by_width (yes q) = back4 a (address-bytes s a e) q
    by_width (no n) = back16 a (address-bytes s a e) (address-wide s a e n)

is_wide : (a : List ℕ) → is_address a ≡ true → Wide (length a)
unfolding is_address
is_wide a e = by-test (eqb (length a) 4) refl e
  where
    by-test : (b : Bool) → eqb (length a) 4 ≡ b → b || eqb (length a) 16 ≡ true → Wide (length a)
    by-test true q h = let four = eqb-true (length a) 4 q in (omega arith, λ n. absurd (n four))
    by-test false q h = let sixteen = eqb-true (length a) 16 h in (omega arith, λ n. sixteen)

-- what the call wrote
written_back : (a text : List ℕ) (n : ℕ) → Bytes a → written_of a (length text) ≡ Ok n → address_of (take n (text_after a text)) ≡ Some a
unfolding written_of text_after
written_back a text n b e = by-test (is_address a) refl (ltb (length text) (length (text_of a))) refl
  where
    by-test : (s : Bool) → is_address a ≡ s → (t : Bool) → ltb (length text) (length (text_of a)) ≡ t → address_of (take n (text_after a text)) ≡ Some a
    by-test false p t q = let refused = rw p at e in cc
    by-test true p true q = let refused = rw (p, q) at e in cc
    by-test true p false q =
        let all = rw (p, q) at e in
        let size : length (text_of a) ≡ n = cc in
        rw (p, q, ← size, take_at (text_of a) (drop (length (text_of a)) text) (length (text_of a)) refl) (back a b (is_wide a p))

pub written_form : WrittenForm
written_form =
    record {
      ipv4-back = back4;
      ipv6-back = back16;
      written_back = written_back;
      spellings = λ s t a b p q. ((λ e. some_is (sym (read_back s a p) ∙ ap address_of e ∙ read_back t b q)), (λ e. ap text_of e));
      ipv4-most = text_most4;
      ipv6-most = text_most16;
    }
