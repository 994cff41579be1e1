-- Reading what was written: the octets and groups that its pieces are, and the sides of "::".
use Rattle.std.specs.Prelude.{Some}
use Prim.Native.Nat.{ℕ, suc, ◌+◌, ◌*◌, ◌<◌}
use mathlib.Core.Path.{◌≡◌, refl, sym, ap, ◌∙◌}
use mathlib.Core.List.{List, [], ◌∷◌, ◌++◌, map, append_assoc, append-nil}
use mathlib.Core.Bool.{Bool, true, false, cond}
use native.Mathlib.Omega.{arith}
use lib.Dec.{eqb}
use lib.ListN.{length, take, drop, length-append}
use lib.Seq.{take_at, drop-append-add}
use borrow.Author.Tests.{eq-eqb, lt-ltb, le-ltb}
use Rattle.octets.specs.Lists.{contains}
use Rattle.octets.specs.Number.{Digits, Bytes}
use Rattle.octets.proofs.Below.{digits-rest}
use Rattle.octets.specs.Split.{split}
use Rattle.octets.proofs.Connectives.{neither}
use Rattle.numeral.specs.Numeral.{digit_value}
use Rattle.numeral.specs.Digits.{decimal_text, hex_text, following, spelled}
use Rattle.numeral.proofs.Digits.{text-some, decimal-read, h16-read}
use Rattle.numeral.proofs.Spelled.{text_lacks, split-spelled, spelled_least}
use Rattle.ipv4.specs.Ipv4.{prefixed, joined, exactly, one_byte, octets, ipv4}
use Rattle.elision.specs.Elision.{elided, elision_first, elision}
use Rattle.ipv6.specs.Ipv6.{groups, side, ipv6}
use Rattle.ipv6.proofs.GroupLaws.{group-bytes, last-group, side-groups}
use Rattle.ip_text.specs.Text.{dotted, colons}
use Rattle.ip_groups.specs.Runs.{bytes_of}

-- ---- IPv4

octets-read : (ns : List ℕ) → Bytes ns → octets (map decimal_text ns) ≡ Some ns
unfolding octets joined prefixed one_byte
octets-read [] b = refl
octets-read (n ∷ ns) b =
    let h : n < 256 = b 0 (omega arith) in
    rw (decimal-read 255 n (omega arith), octets-read ns (digits-rest 256 n ns b))

dots_cut : (n : ℕ) (ns : List ℕ) → split 46 (dotted (n ∷ ns)) ≡ decimal_text n ∷ map decimal_text ns
unfolding digit_value
dots_cut n ns = split-spelled 46 10 (omega arith) (omega arith) (omega arith) n ns

pub ipv4-read : (ns : List ℕ) → Bytes ns → length ns ≡ 4 → ipv4 (dotted ns) ≡ Some ns
unfolding ipv4 exactly
ipv4-read [] b e = absurd (omega arith)
ipv4-read (n ∷ ns) b e = rw (dots_cut n ns, octets-read (n ∷ ns) b, eq-eqb (length (n ∷ ns)) 4 e)

-- ---- groups

no_colon : (g : ℕ) → contains 58 (hex_text g) ≡ false
unfolding digit_value
no_colon g = text_lacks 58 16 (omega arith) (omega arith) (omega arith) g

groups-read : (tail : Bool) (g : ℕ) (gs : List ℕ) → Digits 65536 (g ∷ gs) → groups tail (hex_text g ∷ map hex_text gs) ≡ Some (bytes_of (g ∷ gs))
unfolding groups joined prefixed
groups-read tail g [] d = last-group (hex_text g) tail g (h16-read g (d 0 (omega arith)))
groups-read tail g (k ∷ gs) d =
    rw (group-bytes (hex_text g) g (h16-read g (d 0 (omega arith))), groups-read tail k gs (digits-rest 65536 g (k ∷ gs) d))

colons-cut : (g : ℕ) (gs : List ℕ) → split 58 (colons (g ∷ gs)) ≡ hex_text g ∷ map hex_text gs
unfolding digit_value
colons-cut g gs = split-spelled 58 16 (omega arith) (omega arith) (omega arith) g gs

colons-read : (tail : Bool) (g : ℕ) (gs : List ℕ) → Digits 65536 (g ∷ gs) → groups tail (split 58 (colons (g ∷ gs))) ≡ Some (bytes_of (g ∷ gs))
colons-read tail g gs d = rw (colons-cut g gs) (groups-read tail g gs d)

pub side-read : (tail : Bool) (gs : List ℕ) → Digits 65536 gs → side tail (colons gs) ≡ Some (bytes_of gs)
unfolding spelled side
side-read tail [] d = refl
side-read tail (g ∷ gs) d =
    side-groups tail (colons (g ∷ gs)) (λ e. omega (arith, spelled_least 58 16 (omega arith) (omega arith) g gs)) ∙ colons-read tail g gs d

-- ---- where "::" stands

elision-over : (s t : List ℕ) → contains 58 s ≡ false → elision (s ++ t) ≡ length s + elision t
unfolding elision elision_first contains
elision-over [] t e = omega arith
elision-over (c ∷ s) t e =
    let (here, later) = neither (eqb c 58) (contains 58 s) e in
    first-is here (s ++ t) (elision-over s t later)
  where
    not-here : eqb c 58 ≡ false → (u : List ℕ) → elision_first (c ∷ u) ≡ false
    not-here h [] = refl
    not-here h (d ∷ u) = rw h

    first-is : eqb c 58 ≡ false → (u : List ℕ) → elision u ≡ length s + elision t → cond (elision_first (c ∷ u)) 0 (suc (elision u)) ≡ suc (length s) + elision t
    first-is h u k = rw (not-here h u) (omega arith)

-- one colon before other bytes
elision-single : (s t : List ℕ) → contains 58 s ≡ false → 0 < length s → elision (58 ∷ (s ++ t)) ≡ suc (elision (s ++ t))
unfolding elision elision_first contains
elision-single [] t e h = absurd (omega arith)
elision-single (c ∷ s) t e h = rw (neither (eqb c 58) (contains 58 s) e).0

-- there is none in groups with a colon between each two
elision-following : (gs s : List ℕ) → elision (following 58 16 gs ++ s) ≡ length (following 58 16 gs) + elision s
unfolding following
elision-following [] s = omega arith
elision-following (g ∷ gs) s =
    let rest : List ℕ = following 58 16 gs ++ s in
    let one : elision (58 ∷ (hex_text g ++ rest)) ≡ suc (elision (hex_text g ++ rest)) = elision-single (hex_text g) rest (no_colon g) (text-some 16 (omega arith) (omega arith) g) in
    rw append_assoc (omega (arith, one, elision-over (hex_text g) rest (no_colon g), elision-following gs s, length-append (hex_text g) (following 58 16 gs)))

elision-colons : (gs s : List ℕ) → elision (colons gs ++ s) ≡ length (colons gs) + elision s
unfolding spelled
elision-colons [] s = omega arith
elision-colons (g ∷ gs) s =
    rw append_assoc (omega (arith, elision-over (hex_text g) (following 58 16 gs ++ s) (no_colon g), elision-following gs s, length-append (hex_text g) (following 58 16 gs)))

-- ---- IPv6

-- groups, "::" and a right side
pub ipv6-short : (gs s : List ℕ) → Digits 65536 gs → ipv6 (colons gs ++ (58 ∷ 58 ∷ s)) ≡ elided (Some (bytes_of gs)) (side true s)
unfolding ipv6 elision elision_first
ipv6-short gs s d =
    let t : List ℕ = colons gs ++ (58 ∷ 58 ∷ s) in
    let l : List ℕ = colons gs in
    let at : elision t ≡ length l = elision-colons gs (58 ∷ 58 ∷ s) ∙ omega arith in
    let room : length l < length t = omega (arith, length-append l (58 ∷ 58 ∷ s)) in
    let left : take (elision t) t ≡ l = take_at l (58 ∷ 58 ∷ s) (elision t) (sym at) in
    let right : drop (elision t + 2) t ≡ s = rw at (drop-append-add l (58 ∷ 58 ∷ s) 2) in
    rw (left, right, at, lt-ltb (length l) (length t) room, side-read false gs d)

pub bytes_count : (gs : List ℕ) → length (bytes_of gs) ≡ length gs * 2
bytes_count [] = refl
bytes_count (g ∷ gs) = omega (arith, bytes_count gs)

-- eight groups
pub ipv6-full : (gs : List ℕ) → Digits 65536 gs → length gs ≡ 8 → ipv6 (colons gs) ≡ Some (bytes_of gs)
unfolding ipv6 exactly elision
ipv6-full [] d e = absurd (omega arith)
ipv6-full (g ∷ gs) d e =
    let t : List ℕ = colons (g ∷ gs) in
    let at : elision t ≡ length t = ap elision (sym (append-nil t)) ∙ elision-colons (g ∷ gs) [] ∙ omega arith in
    rw (at, le-ltb (length t) (length t) (omega arith), colons-read true g gs d, eq-eqb (length (bytes_of (g ∷ gs))) 16 (omega (arith, bytes_count (g ∷ gs))))
