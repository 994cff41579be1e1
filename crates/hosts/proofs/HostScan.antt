-- The scan of a host name in lower case tests the rule: at each byte, what is left of the scan is the rule for the labels that are left,
-- the first of which goes on the part p that is read.
use mathlib.Core.Bool.{Bool, false, true, not, cond, ◌&&◌, ◌||◌, false≢true}
use mathlib.Core.Path.{◌≡◌, refl, sym, ap, ◌∙◌}
use mathlib.Core.List.{List, [], ◌∷◌, ◌++◌, append-nil, append_assoc}
use Prim.Native.Nat.{ℕ, suc, ◌+◌, ◌-◌}
use Prim.Native.Char.{code}
use native.Mathlib.Omega.{arith}
use borrow.Author.Tests.{eqb-true, le-leb}
use lib.Dec.{leb, eqb}
use lib.ListN.{length, get_or, length-append}
use lib.Seq.{get_or-append-add}
use Rattle.octets.specs.Lists.{within, every}
use Rattle.octets.specs.Split.{join_first, split}
use Rattle.octets.proofs.Pieces.{split-start}
use Rattle.octets.proofs.Connectives.{and-false, within_low, within-high}
use Rattle.texts.specs.Host.{is_label_byte, is_label, is_host_name}
use Rattle.texts.specs.Texts.{good_host}
use Rattle.hosts.specs.HostScan.{letter_or_digit, labels_from}

and_assoc : (a b c : Bool) → (a && (b && c)) ≡ (a && b && c)
and_assoc true b c = refl
and_assoc false b c = refl

abbrev small : ℕ → Bool
small c = not (within (code "A") (code "Z") c)

abbrev hyphen_last : List ℕ → Bool
hyphen_last p = eqb (get_or p (length p - 1) 0) (code "-")

-- the part of a label that is read has only its bytes, and no hyphen first
record Opened (p : List ℕ) : Type 0 where
  bytes : every is_label_byte p ≡ true
  first : eqb (get_or p 0 0) (code "-") ≡ false

label_is : (p : List ℕ) → Opened p → is_label p ≡ (within 1 63 (length p) && not (hyphen_last p))
unfolding is_label
label_is p o = rw (o.first, o.bytes) (go (within 1 63 (length p)) (not (hyphen_last p)))
  where
    go : (x y : Bool) → (x && true && y && true) ≡ (x && y)
    go true true = refl
    go true false = refl
    go false y = refl

every_append : (p q : List ℕ) → every is_label_byte (p ++ q) ≡ (every is_label_byte p && every is_label_byte q)
unfolding every
every_append [] q = refl
every_append (x ∷ p) q = ap (λ (b : Bool). is_label_byte x && b) (every_append p q) ∙ and_assoc (is_label_byte x) (every is_label_byte p) (every is_label_byte q)

-- a label with a byte that is none of its bytes, or with a hyphen first
bad-byte : (q x : List ℕ) → every is_label_byte q ≡ false → is_label (q ++ x) ≡ false
unfolding is_label
bad-byte q x e =
    rw (every_append q x, e)
    (and-false (leb 1 (length (q ++ x)) && leb (length (q ++ x)) 63 && not (eqb (get_or (q ++ x) 0 0) (code "-")) && not (eqb (get_or (q ++ x) (length (q ++ x) - 1) 0) (code "-"))))

bad-first : (c : ℕ) (x : List ℕ) → eqb c (code "-") ≡ true → is_label (c ∷ x) ≡ false
unfolding is_label
bad-first c x e = rw (e, and-false (leb 1 (suc (length x)) && leb (suc (length x)) 63)) refl

bad-joined : (q : List ℕ) (ls : List (List ℕ)) → ((x : List ℕ) → is_label (q ++ x) ≡ false) → every is_label (join_first q ls) ≡ false
unfolding every join_first
bad-joined q [] f = rw (← append-nil q, f []) refl
bad-joined q (x ∷ ls) f = rw (f x) refl

join-join : (p q : List ℕ) (ls : List (List ℕ)) → join_first p (join_first q ls) ≡ join_first (p ++ q) ls
unfolding join_first
join-join p q [] = refl
join-join p q (x ∷ ls) = ap (λ (y : List ℕ). y ∷ ls) (sym (append_assoc p q x))

opened_nil : Opened []
unfolding every
opened_nil = record { bytes = refl; first = refl }

opened-more : (p : List ℕ) (c : ℕ) → Opened p → is_label_byte c ≡ true → ((p ≡ []) → eqb c (code "-") ≡ false) → Opened (p ++ c ∷ [])
unfolding every
opened-more p c o e f = record { bytes = rw (every_append p (c ∷ []), o.bytes, e) refl; first = go p f o.first }
  where
    go : (p : List ℕ) → ((p ≡ []) → eqb c (code "-") ≡ false) → eqb (get_or p 0 0) (code "-") ≡ false → eqb (get_or (p ++ c ∷ []) 0 0) (code "-") ≡ false
    go [] f e = f refl
    go (x ∷ p) f e = e

last_more : (p : List ℕ) (c : ℕ) → hyphen_last (p ++ c ∷ []) ≡ eqb c (code "-")
last_more p c = ap (λ (n : ℕ). eqb n (code "-")) (ap (λ (n : ℕ). get_or (p ++ c ∷ []) n 0) last-at ∙ get_or-append-add p (c ∷ []) 0 0)
  where
    last-at : length (p ++ c ∷ []) - 1 ≡ length p + 0
    last-at = simp length-append (omega arith)

length_more : (p : List ℕ) (c : ℕ) → length (p ++ c ∷ []) ≡ length p + 1
length_more p c = simp length-append

-- a byte that is no letter in lower case, no digit and no hyphen is no label byte, or a capital
other_byte : (c : ℕ) → eqb c (code "-") ≡ false → letter_or_digit c ≡ false → (is_label_byte c && small c) ≡ false
unfolding is_label_byte letter_or_digit
other_byte c h e = go (within (code "a") (code "z") c) (within (code "0") (code "9") c) (within (code "A") (code "Z") c) refl refl refl e
  where
    go :
        (u v w : Bool) → within (code "a") (code "z") c ≡ u → within (code "0") (code "9") c ≡ v → within (code "A") (code "Z") c ≡ w → (u || v) ≡ false
        → ((v || w || u || eqb c (code "-")) && not w) ≡ false
    go true v w x y z k = absurd (let i : ◌≡◌ {A = Bool} true false = k in let n : ◌≡◌ {A = ℕ} 0 1 = cc in omega arith)
    go false true w x y z k = absurd (let i : ◌≡◌ {A = Bool} true false = k in let n : ◌≡◌ {A = ℕ} 0 1 = cc in omega arith)
    go false false true x y z k = refl
    go false false false x y z k = rw h refl

letter-byte : (c : ℕ) → letter_or_digit c ≡ true → is_label_byte c ≡ true
unfolding letter_or_digit is_label_byte
letter-byte c e = go (within (code "a") (code "z") c) (within (code "0") (code "9") c) (within (code "A") (code "Z") c) e
  where
    go : (u v w : Bool) → (u || v) ≡ true → (v || w || u || eqb c (code "-")) ≡ true
    go u true w k = refl
    go true false true k = refl
    go true false false k = refl
    go false false w k = absurd (false≢true k)

letter-small : (c : ℕ) → letter_or_digit c ≡ true → small c ≡ true
unfolding letter_or_digit
letter-small c e = go (within (code "a") (code "z") c) (within (code "0") (code "9") c) (within (code "A") (code "Z") c) refl refl refl e
  where
    go : (u v w : Bool) → within (code "a") (code "z") c ≡ u → within (code "0") (code "9") c ≡ v → within (code "A") (code "Z") c ≡ w → (u || v) ≡ true → not w ≡ true
    go u v false x y z k = refl
    go true v true x y z k = absurd (omega (arith, within_low (code "a") (code "z") c x, within-high (code "A") (code "Z") c z))
    go false true true x y z k = absurd (omega (arith, within-high (code "0") (code "9") c y, within_low (code "A") (code "Z") c z))
    go false false true x y z k = absurd (false≢true k)

hyphen-byte : (c : ℕ) → eqb c (code "-") ≡ true → is_label_byte c ≡ true
unfolding is_label_byte
hyphen-byte c e = ap is_label_byte (eqb-true c (code "-") e)

hyphen-small : (c : ℕ) → eqb c (code "-") ≡ true → small c ≡ true
hyphen-small c e = ap (λ (n : ℕ). small n) (eqb-true c (code "-") e)

dot-small : (c : ℕ) → eqb c (code ".") ≡ true → small c ≡ true
dot-small c e = ap (λ (n : ℕ). small n) (eqb-true c (code ".") e)

-- what the scan of s gives after the part p
abbrev Scanned : List ℕ → List ℕ → Type 0
Scanned s p = labels_from (length p) (hyphen_last p) s ≡ (every is_label (join_first p (split (code ".") s)) && every small s)

-- the byte c goes on the part p
module _ (c : ℕ) (s p : List ℕ) where
  abbrev Left : Bool → Type 0
  Left b = b ≡ (every is_label (join_first (p ++ c ∷ []) (split (code ".") s)) && (small c && every small s))

  onward : small c ≡ true → Scanned s (p ++ c ∷ []) → Left (labels_from (length p + 1) (eqb c (code "-")) s)
  onward f m =
      rw f
      (sym (ap (λ (k : ℕ). labels_from k (eqb c (code "-")) s) (length_more p c))
      ∙ sym (ap (λ (h : Bool). labels_from (length (p ++ c ∷ [])) h s) (last_more p c)) ∙ m)

  refused : eqb c (code "-") ≡ false → letter_or_digit c ≡ false → Left false
  unfolding every
  refused h e = go (is_label_byte c) refl (other_byte c h e)
    where
      go : (v : Bool) → is_label_byte c ≡ v → (v && small c) ≡ false → Left false
      go true x k = rw k (sym (and-false (every is_label (join_first (p ++ c ∷ []) (split (code ".") s)))))
      go false x k =
          rw (bad-joined (p ++ c ∷ []) (split (code ".") s) (λ y. bad-byte (p ++ c ∷ []) y (every_append p (c ∷ []) ∙ rw x (and-false (every is_label_byte p))))) refl

scan : (s p : List ℕ) → Opened p → Scanned s p
unfolding labels_from split every join_first
scan [] p o = rw (append-nil p, label_is p o) (go (within 1 63 (length p) && not (hyphen_last p)))
  where
    go : (x : Bool) → x ≡ (x && true && true)
    go true = refl
    go false = refl
scan (c ∷ s) p o = by_byte (eqb c (code ".")) (eqb c (code "-")) (letter_or_digit c) refl refl refl (scan s [] opened_nil) (λ q. scan s (p ++ c ∷ []) q)
  where
    hyphen : (p : List ℕ) → Opened p → eqb c (code "-") ≡ true → (Opened (p ++ c ∷ []) → Scanned s (p ++ c ∷ [])) → Left c s p (leb 1 (length p) && labels_from (length p + 1) true s)
    hyphen [] o e more = rw (bad-joined (c ∷ []) (split (code ".") s) (λ x. bad-first c x e)) refl
    hyphen (x ∷ p) o e more =
        let q = opened-more (x ∷ p) c o (hyphen-byte c e) (λ n. absurd (let z : ◌≡◌ {A = ℕ} 0 1 = cc in omega arith)) in
        rw (le-leb 1 (suc (length p)) (omega arith)) (rw e at (onward c s (x ∷ p) (hyphen-small c e) (more q)))

    by_byte :
        (u v w : Bool) → eqb c (code ".") ≡ u → eqb c (code "-") ≡ v → letter_or_digit c ≡ w
        → labels_from 0 false s ≡ (every is_label (join_first [] (split (code ".") s)) && every small s)
        → (Opened (p ++ c ∷ []) → Scanned s (p ++ c ∷ []))
        → cond u (within 1 63 (length p) && not (hyphen_last p) && labels_from 0 false s)
        (cond v (leb 1 (length p) && labels_from (length p + 1) true s) (w && labels_from (length p + 1) false s))
        ≡ (every is_label (join_first p (cond u ([] ∷ split (code ".") s) (join_first (c ∷ []) (split (code ".") s)))) && (small c && every small s))
    by_byte true v w x y z start more =
        rw (append-nil p, label_is p o, dot-small c x, start, split-start (code ".") s)
        (and_assoc (within 1 63 (length p) && not (hyphen_last p)) (every is_label (split (code ".") s)) (every small s))
    by_byte false true w x y z start more = rw (join-join p (c ∷ []) (split (code ".") s)) (hyphen p o y more)
    by_byte false false true x y z start more =
        rw (join-join p (c ∷ []) (split (code ".") s))
        (rw y at (onward c s p (letter-small c z) (more (opened-more p c o (letter-byte c z) (λ n. y)))))
    by_byte false false false x y z start more = rw (join-join p (c ∷ []) (split (code ".") s)) (refused c s p y z)

pub host-scan : (s : List ℕ) → good_host s ≡ (leb (length s) 253 && labels_from 0 false s)
unfolding good_host is_host_name
host-scan s =
    sym (ap (λ (b : Bool). leb (length s) 253 && b) (scan s [] opened_nil ∙ ap (λ (ls : List (List ℕ)). every is_label ls && every small s) (split-start (code ".") s))
    ∙ and_assoc (leb (length s) 253) (every is_label (split (code ".") s)) (every small s))
