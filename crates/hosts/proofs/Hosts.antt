-- A host name of at most 63 bytes is one whose bytes may follow each other and that starts and ends with a letter or a digit.
use mathlib.Core.Path.{◌≡◌, refl, sym, ◌∙◌, ap}
use mathlib.Core.Bool.{Bool, true, false, not, cond, ◌&&◌, ◌||◌, false≢true}
use mathlib.Core.List.{List, [], ◌∷◌}
use Prim.Native.Nat.{ℕ, zero, suc, ◌+◌, ◌-◌, ◌≤◌, ◌<◌, zero-le, suc-le-suc}
use Prim.Native.Char.{code}
use borrow.Author.Tests.{le-leb, eqb-true}
use native.Mathlib.Omega.{arith}
use native.Mathlib.Numerals.{add-one}
use lib.Dec.{leb, eqb}
use lib.ListN.{length, get_or}
use Rattle.octets.specs.Lists.{within}
use Rattle.texts.specs.Texts.{good_host}
use Rattle.hosts.specs.HostScan.{letter_or_digit, labels_from}
use Rattle.texts.specs.Run.{run}
use Rattle.hosts.specs.Pairs.{may_follow, follow_at}
use Rattle.hosts.proofs.Labels.{host-labels}
use Rattle.octets.proofs.Connectives.{and_left, and_right, and-false, within_low}
use Rattle.texts.proofs.Runs.{run_step, run_ends, run_thirds, first-true, true-first, equal_if, and_both}

module _ (s : List ℕ) where
  pub host-step : (step at i : ℕ) (good r : Bool) → step ≡ 1 → good ≡ run (follow_at s) at i
      → r ≡ may_follow (get_or s (at + i) 0) (get_or s (at + i + step) 0) → (good && r) ≡ run (follow_at s) at (i + 1)
  unfolding follow_at
  host-step step at i good r o e d = rw (run_step, e, d, o, add-one (at + i))

  pub host-ends : (k : ℕ) → k < length s → length s ≤ k + k + 1
      → (run (follow_at s) 0 k && run (follow_at s) (length s - 1 - k) k) ≡ run (follow_at s) 0 (length s - 1)
  host-ends k h l = run_ends (follow_at s) k k (length s - 1) (omega arith) (omega arith) (omega arith)

  pub host_thirds : (k : ℕ) → k + k < length s → length s ≤ k + k + k + 1
      → (run (follow_at s) 0 k && run (follow_at s) k k && run (follow_at s) (length s - 1 - k) k) ≡ run (follow_at s) 0 (length s - 1)
  host_thirds k h l = run_thirds (follow_at s) k (length s - 1) (omega arith) (omega arith)

and_true : (a : Bool) → (a && true) ≡ a
and_true true = refl
and_true false = refl

-- the bytes after x
chain : ℕ → List ℕ → Bool
chain x [] = letter_or_digit x
chain x (y ∷ ys) = may_follow x y && chain y ys

-- a label of k bytes so far that ends with x, which is a hyphen or not; or a dot before it
data After (x k : ℕ) (h : Bool) : Type 0 where
  letter : letter_or_digit x ≡ true → eqb x (code ".") ≡ false → eqb x (code "-") ≡ false → 1 ≤ k → h ≡ false → After x k h
  hyphen : x ≡ code "-" → 1 ≤ k → h ≡ true → After x k h
  dot : x ≡ code "." → k ≡ 0 → h ≡ false → After x k h

module _ (x k : ℕ) (h : Bool) where
  labels-none : After x k h → k ≤ 63 → (within 1 63 k && not h) ≡ letter_or_digit x
  unfolding letter_or_digit
  labels-none (letter l d m p e) q = rw (le-leb 1 k p, le-leb k 63 q, e) (sym l)
  labels-none (hyphen l p e) q = rw (le-leb 1 k p, le-leb k 63 q, e, l)
  labels-none (dot l p e) q = rw (p, l)

  module _ (y : ℕ) (bs : List ℕ) (a : After x k h) (q : k < 63) where
    at-dot : eqb y (code ".") ≡ true → labels_from 0 false bs ≡ chain y bs → (within 1 63 k && not h && labels_from 0 false bs) ≡ (may_follow x y && chain y bs)
    unfolding may_follow letter_or_digit
    at-dot d i = go a (eqb-true y (code ".") d)
      where
        go : After x k h → y ≡ code "." → (within 1 63 k && not h && labels_from 0 false bs) ≡ (may_follow x y && chain y bs)
        go (letter l d m p e) r = rw (le-leb 1 k p, le-leb k 63 (omega arith), e, i) (rw (r, d, m))
        go (hyphen l p e) r = rw (le-leb 1 k p, le-leb k 63 (omega arith), e, r, l)
        go (dot l p e) r = rw (p, r, l)

    at-hyphen : eqb y (code "-") ≡ true → (1 ≤ k → labels_from (k + 1) true bs ≡ chain y bs) → (leb 1 k && labels_from (k + 1) true bs) ≡ (may_follow x y && chain y bs)
    unfolding may_follow letter_or_digit
    at-hyphen d i = go a (eqb-true y (code "-") d)
      where
        go : After x k h → y ≡ code "-" → (leb 1 k && labels_from (k + 1) true bs) ≡ (may_follow x y && chain y bs)
        go (letter l d m p e) r = rw (le-leb 1 k p, i p) (rw (r, d))
        go (hyphen l p e) r = rw (le-leb 1 k p, i p) (rw (r, l))
        go (dot l p e) r = rw (p, r, l)

    at_other : (t : Bool) → letter_or_digit y ≡ t → eqb y (code ".") ≡ false → eqb y (code "-") ≡ false
        → (t ≡ true → labels_from (k + 1) false bs ≡ chain y bs)
        → (letter_or_digit y && labels_from (k + 1) false bs) ≡ (may_follow x y && chain y bs)
    unfolding may_follow
    at_other true e d m i = rw (e, i refl)
    at_other false e d m i = rw (e, d, m)

labels : (bs : List ℕ) (x k : ℕ) (h : Bool) → After x k h → k + length bs ≤ 63 → labels_from k h bs ≡ chain x bs
unfolding labels_from chain
labels [] x k h a q = labels-none x k h a (omega arith)
labels (y ∷ ys) x k h a q = by_byte (eqb y (code ".")) (eqb y (code "-")) refl refl (labels ys y)
  where
    by_byte : (d m : Bool) → eqb y (code ".") ≡ d → eqb y (code "-") ≡ m
        → ((k : ℕ) (h : Bool) → After y k h → k + length ys ≤ 63 → labels_from k h ys ≡ chain y ys)
        → cond d (within 1 63 k && not h && labels_from 0 false ys)
        (cond m (leb 1 k && labels_from (k + 1) true ys) (letter_or_digit y && labels_from (k + 1) false ys))
        ≡ (may_follow x y && chain y ys)
    by_byte true m d e i =
        at-dot x k h y ys a (omega arith) d (i 0 false (dot (eqb-true y (code ".") d) refl refl) (omega arith))
    by_byte false true d e i =
        at-hyphen x k h y ys a (omega arith) e (λ p. i (k + 1) true (hyphen (eqb-true y (code "-") e) (omega arith) refl) (omega arith))
    by_byte false false d e i =
        at_other x k h y ys a (omega arith) (letter_or_digit y) refl d e
        (λ t. i (k + 1) false (letter t d e (omega arith) refl) (omega arith))

-- from the first byte on
labels-first : (x : ℕ) (s : List ℕ) → length s < 63 → labels_from 0 false (x ∷ s) ≡ (letter_or_digit x && chain x s)
unfolding labels_from letter_or_digit
labels-first x s q = by_byte (eqb x (code ".")) (eqb x (code "-")) (letter_or_digit x) refl refl refl
  where
    by_byte : (d m t : Bool) → eqb x (code ".") ≡ d → eqb x (code "-") ≡ m → letter_or_digit x ≡ t
        → cond d (within 1 63 0 && not false && labels_from 0 false s) (cond m (leb 1 0 && labels_from 1 true s) (t && labels_from 1 false s))
        ≡ (t && chain x s)
    by_byte true m t d e l = rw (sym l, eqb-true x (code ".") d)
    by_byte false true t d e l = rw (sym l, eqb-true x (code "-") e)
    by_byte false false true d e l = labels s x 1 false (letter l d e (omega arith) refl) (omega arith)
    by_byte false false false d e l = refl

chain-last : (s : List ℕ) (x : ℕ) → chain x s ≡ true → letter_or_digit (get_or (x ∷ s) (length s) 0) ≡ true
unfolding chain
chain-last [] x e = e
chain-last (y ∷ ys) x e = chain-last ys y (and_right (may_follow x y) (chain y ys) e)

chain_follow : (s : List ℕ) (x : ℕ) → chain x s ≡ true → (i : ℕ) → i < length s → follow_at (x ∷ s) i ≡ true
unfolding chain follow_at
chain_follow [] x e i h = absurd (omega arith)
chain_follow (y ∷ ys) x e zero h = and_left (may_follow x y) (chain y ys) e
chain_follow (y ∷ ys) x e (suc i) h = chain_follow ys y (and_right (may_follow x y) (chain y ys) e) i (omega arith)

follow_chain : (s : List ℕ) (x : ℕ) → letter_or_digit (get_or (x ∷ s) (length s) 0) ≡ true
    → ((i : ℕ) → i < length s → follow_at (x ∷ s) i ≡ true) → chain x s ≡ true
unfolding chain follow_at
follow_chain [] x e f = e
follow_chain (y ∷ ys) x e f =
    and_both (may_follow x y) (chain y ys) (f 0 (suc-le-suc zero-le)) (follow_chain ys y e (λ i h. f (suc i) (suc-le-suc h)))

chain_run : (s : List ℕ) (x : ℕ) → chain x s ≡ (letter_or_digit (get_or (x ∷ s) (length s) 0) && run (follow_at (x ∷ s)) 0 (length s))
chain_run s x = equal_if _ _
    (λ e. and_both _ _ (chain-last s x e) (true-first (follow_at (x ∷ s)) (length s) (chain_follow s x e)))
    (λ e. follow_chain s x (and_left (letter_or_digit (get_or (x ∷ s) (length s) 0)) (run (follow_at (x ∷ s)) 0 (length s)) e)
    (first-true (follow_at (x ∷ s)) (length s) (and_right (letter_or_digit (get_or (x ∷ s) (length s) 0)) (run (follow_at (x ∷ s)) 0 (length s)) e)))

pub host-short : (s : List ℕ) → 1 ≤ length s → length s ≤ 63
    → good_host s ≡ (letter_or_digit (get_or s 0 0) && (letter_or_digit (get_or s (length s - 1) 0) && run (follow_at s) 0 (length s - 1)))
host-short [] h q = absurd (omega arith)
host-short (x ∷ xs) h q =
    let d : suc (length xs) - 1 ≡ length xs = omega arith in
    rw (← host-labels (x ∷ xs) (omega arith), d) (labels-first x xs (omega arith) ∙ ap (λ (b : Bool). letter_or_digit x && b) (chain_run xs x))

-- of the bytes that may follow another, those from "0" on are the letters and digits
letter-low : (y : ℕ) → letter_or_digit y ≡ true → code "0" ≤ y
unfolding letter_or_digit
letter-low y e = by-letter (within (code "a") (code "z") y) refl e
  where
    by-letter : (t : Bool) → within (code "a") (code "z") y ≡ t → (t || within (code "0") (code "9") y) ≡ true → code "0" ≤ y
    by-letter true p k = omega (arith, within_low (code "a") (code "z") y p)
    by-letter false p k = within_low (code "0") (code "9") y k

followed : (x y : ℕ) → may_follow x y ≡ true → leb (code "0") y ≡ letter_or_digit y
unfolding may_follow letter_or_digit
followed x y = by_byte (letter_or_digit y) (eqb y (code "-")) (eqb y (code ".")) refl refl refl
  where
    by_byte : (t h d : Bool) → letter_or_digit y ≡ t → eqb y (code "-") ≡ h → eqb y (code ".") ≡ d
        → (t || (h && not (eqb x (code "."))) || (d && not (eqb x (code ".")) && not (eqb x (code "-")))) ≡ true → leb (code "0") y ≡ t
    by_byte true h d l m n e = le-leb (code "0") y (letter-low y l)
    by_byte false true d l m n e = rw (eqb-true y (code "-") m)
    by_byte false false true l m n e = rw (eqb-true y (code ".") n)
    by_byte false false false l m n e = absurd (false≢true e)

first-last : (s : List ℕ) → 1 ≤ length s → run (follow_at s) 0 (length s - 1) ≡ true
    → (letter_or_digit (get_or s 0 0) && leb (code "0") (get_or s (length s - 1) 0)) ≡ (letter_or_digit (get_or s 0 0) && letter_or_digit (get_or s (length s - 1) 0))
unfolding follow_at
first-last [] h e = absurd (omega arith)
first-last (x ∷ []) h e = by-letter (letter_or_digit x) refl
  where
    by-letter : (t : Bool) → letter_or_digit x ≡ t → (t && leb (code "0") x) ≡ (t && t)
    by-letter true l = le-leb (code "0") x (letter-low x l)
    by-letter false l = refl
first-last (x ∷ y ∷ s) h e =
    let d : suc (suc (length s)) - 1 ≡ suc (length s) = omega arith in
    ap (λ (b : Bool). letter_or_digit x && b) (rw d (followed _ _ (first-true (follow_at (x ∷ y ∷ s)) (suc (length s)) (rw d at e) (length s) (omega arith))))

-- what each test of a short host name decides
module _ (s : List ℕ) (h : 1 ≤ length s) (q : length s ≤ 63) where
  pub host_unpaired : run (follow_at s) 0 (length s - 1) ≡ false → false ≡ good_host s
  host_unpaired e = rw (host-short s h q, e, and-false (letter_or_digit (get_or s (length s - 1) 0)), and-false (letter_or_digit (get_or s 0 0)))

  pub host_paired : run (follow_at s) 0 (length s - 1) ≡ true → (letter_or_digit (get_or s 0 0) && leb (code "0") (get_or s (length s - 1) 0)) ≡ good_host s
  host_paired e = first-last s h e ∙ rw (host-short s h q, e, and_true (letter_or_digit (get_or s (length s - 1) 0)))
