-- Laws of what is written to the start of a buffer: one thing after another, one element more, part by part.
use Prim.Native.Nat.{ℕ, suc, ◌+◌, ◌-◌, ◌≤◌, ◌<◌}
use mathlib.Core.Path.{◌≡◌, refl, sym, ap, ◌∙◌}
use mathlib.Core.List.{List, [], ◌∷◌, ◌++◌, append_assoc, append-nil}
use native.Mathlib.Omega.{arith}
use native.Mathlib.Numerals.{add-one}
use borrow.Author.Tests.{lt-ltb, le-ltb}
use lib.ListN.{length, take, drop, set, get_or, length-append, length-take, length-drop, drop_of_length-le}
use lib.Seq.{take_all, take_at, drop_at, drop-drop, drop-cons, set_at, append_snoc}
use borrow.Rule.Slice.PartMut.{put_mid}
use Rattle.std.specs.Prelude.{Ok, Err}
use Rattle.output.specs.declared.WriteError.TheVariants.{NoRoom}
use Rattle.output.specs.Writing.{over, if_room, counted_of, Written, Reached}

pub written-nothing : (a : List ℕ) → Written [] a a 0
written-nothing a = record { size = refl; is = refl }

-- the whole buffer
pub written_over : {s a b : List ℕ} {m : ℕ} → Written s a b m → b ≡ over s a
written_over w = rw w.size at w.is

pub over-written : {s a b : List ℕ} → b ≡ over s a → Written s a b (length s)
over-written e = record { size = refl; is = e }

-- what was written stands at the front
pub written-front : {s a b : List ℕ} {m : ℕ} → Written s a b m → take m b ≡ s
written-front {s} {a} {m = m} w = ap (take m) w.is ∙ take_at s (drop m a) m (sym w.size)

-- all or nothing, and what is told of it
module _ (text before : List ℕ) {count n : ℕ} (e : n ≡ count) where
  pub all-put : length text ≤ length before → {after : List ℕ} → after ≡ over text before
      → (Ok n ≡ counted_of text count (length before)) × (after ≡ if_room text before)
  all-put h o = (rw (le-ltb (length before) (length text) h, e), rw (le-ltb (length before) (length text) h) o)

  pub nothing_put : length before < length text → (Err (NoRoom n) ≡ counted_of text count (length before)) × (before ≡ if_room text before)
  nothing_put h = (rw (lt-ltb (length before) (length text) h, e), rw (lt-ltb (length before) (length text) h))

-- the buffer keeps its length
pub written-length : {s a b : List ℕ} {m : ℕ} → Written s a b m → m ≤ length a → length b ≡ length a
written-length {s} {a} {m = m} u h = omega (arith, u.size, ap length u.is ∙ length-append s (drop m a), length-drop m a)

-- the rest of a buffer, as it is lent
pub rest-length : (b : List ℕ) (m : ℕ) → length (take (length b - m) (drop m b)) ≡ length b - m
rest-length b m = omega (arith, length-take (length b - m) (drop m b), length-drop m b)

-- the buffer after its rest was lent
pub rest_put : (b c : List ℕ) (m : ℕ) → put_mid m (length b - m) b c ≡ take m b ++ c
rest_put b c m =
    let none : drop (length b - m) (drop m b) ≡ [] = drop_of_length-le (drop m b) {i = length b - m} (omega (arith, length-drop m b)) in
    rw (none, append-nil c)

-- one after another: the second goes to the rest of the buffer
pub written_both :
    {s t a b c : List ℕ} {m n : ℕ} → Written s a b m → Written t (take (length b - m) (drop m b)) c n
    → Written (s ++ t) a (put_mid m (length b - m) b c) (m + n)
written_both {s} {t} {a} {b} {c} {m} {n} u v =
    let i = u.size in
    let j = v.size in
    let front : take m b ≡ s = written-front u in
    let rest : drop m b ≡ drop m a = ap (drop m) u.is ∙ drop_at s (drop m a) m (sym i) in
    let whole : take (length b - m) (drop m b) ≡ drop m b = take_all (length b - m) (drop m b) (omega (arith, length-drop m b)) in
    let second : c ≡ t ++ drop (m + n) a = v.is ∙ rw (whole, rest, drop-drop n m a) in
    record {
      size = omega (arith, length-append s t);
      is = rest_put b c m ∙ rw (front, second) (sym (append_assoc s t (drop (m + n) a)));
    }

-- four numbers at the front
pub four-set : (s r k n : ℕ) (list : List ℕ) → 4 ≤ length list → set (set (set (set list 0 s) 1 r) 2 k) 3 n ≡ s ∷ r ∷ k ∷ n ∷ drop 4 list
four-set s r k n [] h = absurd (omega arith)
four-set s r k n (a ∷ []) h = absurd (omega arith)
four-set s r k n (a ∷ b ∷ []) h = absurd (omega arith)
four-set s r k n (a ∷ b ∷ c ∷ []) h = absurd (omega arith)
four-set s r k n (a ∷ b ∷ c ∷ d ∷ list) h = refl

-- one element more
pub written_one : {s a b : List ℕ} {m : ℕ} (x : ℕ) → m < length b → Written s a b m → Written (s ++ (x ∷ [])) a (set b m x) (m + 1)
written_one {s} {a} {b} {m} x h u =
    let i = u.size in
    let inside : m < length a = omega (arith, ap length u.is ∙ length-append s (drop m a), length-drop m a) in
    record {
      size = omega (arith, length-append s (x ∷ []));
      is = rw (u.is, drop-cons a m 0 inside, add-one m) (set_at s (get_or a m 0) (drop (suc m) a) x m (sym i) ∙ sym (append_snoc s x (drop (suc m) a)));
    }

-- what is left begins with a part
pub record Parted (rest part left : List ℕ) : Type 0 where
  pub is : rest ≡ part ++ left

pub at-start : (whole before : List ℕ) → Reached whole whole before before 0
at-start whole before = record { front = []; joined = refl; written = written-nothing before }

module _ {whole rest a b : List ℕ} {m : ℕ} (g : Reached whole rest a b m) where
  what_is-left : m + length rest ≡ length whole
  what_is-left = omega (arith, g.written.size, ap length g.joined ∙ length-append g.front rest)

  pub next-part : {s left c : List ℕ} {n : ℕ} → Parted rest s left → Written s (take (length b - m) (drop m b)) c n
      → Reached whole left a (put_mid m (length b - m) b c) (m + n)
  next-part {s} {left} p w = record {
    front = g.front ++ s;
    joined = g.joined ∙ rw p.is (sym (append_assoc g.front s left));
    written = written_both g.written w;
  }

  -- there is room for the whole
  module _ (room : length whole ≤ length a) where
    pub kept-length : length b ≡ length a
    kept-length = written-length g.written (omega (arith, what_is-left))

    pub rest-fits : m + length rest ≤ length b
    rest-fits = omega (arith, what_is-left, kept-length)

    pub part-fits : {s left : List ℕ} → Parted rest s left → m + length s ≤ length b
    part-fits {s} {left} p = omega (arith, rest-fits, ap length p.is ∙ length-append s left)

-- the rest in one part
pub last-part : {whole rest a b c : List ℕ} {m n : ℕ} → Reached whole rest a b m → Written rest (take (length b - m) (drop m b)) c n
    → Written whole a (put_mid m (length b - m) b c) (m + n)
last-part g w = rw g.joined (written_both g.written w)

pub at-end : {whole a b : List ℕ} {m : ℕ} → Reached whole [] a b m → Written whole a b m
at-end g = rw (g.joined, append-nil g.front) g.written
