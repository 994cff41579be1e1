-- Laws of the sides of "::": zeros put between them, and the sixteen bytes that they are then.
use Rattle.std.specs.Prelude.{Option, None, Some}
use Prim.Native.Nat.{ℕ, zero, suc, ◌+◌, ◌-◌, ◌≤◌, ◌<◌}
use mathlib.Core.Path.{◌≡◌, refl, ap, ◌∙◌}
use mathlib.Core.List.{List, [], ◌∷◌, ◌++◌, append-nil}
use mathlib.Core.Bool.{Bool, cond}
use native.Mathlib.Omega.{arith}
use lib.Dec.{leb}
use lib.ListN.{length, take, drop, replicate, length-append, length-replicate, length-drop, drop_of_length-le}
use lib.Seq.{take-append-add}
use borrow.Rule.Slice.PartMut.{put_mid}
use borrow.Author.Tests.{le-leb, lt-leb, leb-true}
use Rattle.octets.proofs.Found.{none-some, cond-some}
use Rattle.elision.specs.Elision.{elided}

pub elided-long : (a b : List ℕ) → 14 < length a + length b → elided (Some a) (Some b) ≡ None
unfolding elided
elided-long a b h =
    ap (λ (few : Bool). cond few (Some (a ++ replicate (16 - (length a + length b)) 0 ++ b)) None) (lt-leb (length a + length b) 14 h)

abbrev zeros : ℕ → List ℕ
zeros n = replicate n 0

drop-zeros : (m k n : ℕ) → m + k ≡ n → drop m (zeros n) ≡ zeros k
drop-zeros zero k n e = let q : n ≡ k = omega arith in rw q
drop-zeros (suc m) k zero e = let z : ⊥ = omega arith in absurd z
drop-zeros (suc m) k (suc n) e = drop-zeros m k n (omega arith)

take-zeros : (m k n : ℕ) → m + k ≡ n → take m (zeros n) ≡ zeros m
take-zeros zero k n e = refl
take-zeros (suc m) k zero e = let z : ⊥ = omega arith in absurd z
take-zeros (suc m) k (suc n) e = ap (λ (r : List ℕ). 0 ∷ r) (take-zeros m k n (omega arith))

-- the left side, zeros, and the right side at the end
pub sides-joined : (a b : List ℕ) → length a + length b ≤ 14
    → Some (put_mid (16 - length b) (16 - (16 - length b)) (a ++ drop (length a) (zeros 16)) b) ≡ elided (Some a) (Some b)
unfolding elided
sides-joined a b h =
    let k : ℕ = 16 - (length a + length b) in
    let z : drop (length a) (zeros 16) ≡ zeros (16 - length a) = drop-zeros (length a) (16 - length a) 16 (omega arith) in
    let front : List ℕ = a ++ zeros (16 - length a) in
    let f : length front ≤ 16 = omega (arith, length-append a (zeros (16 - length a)), length-replicate {A = ℕ} (16 - length a) 0) in
    let e : 16 - length b ≡ length a + k = omega arith in
    let t : take (16 - length b) front ≡ a ++ zeros k =
    rw e (take-append-add a (zeros (16 - length a)) k ∙ ap (λ (r : List ℕ). a ++ r) (take-zeros k (length b) (16 - length a) (omega arith))) in
    let n : drop (16 - (16 - length b)) (drop (16 - length b) front) ≡ [] =
    drop_of_length-le (drop (16 - length b) front) (omega (arith, length-drop (16 - length b) front)) in
    rw (z, t, le-leb (length a + length b) 14 h, n, append-nil)

pub elided-wide : (o p : Option (List ℕ)) (a : List ℕ) → elided o p ≡ Some a → length a ≡ 16
unfolding elided
elided-wide None p a e = none-some a e
elided-wide (Some x) None a e = none-some a e
elided-wide (Some x) (Some y) a e =
    let k : ℕ = 16 - (length x + length y) in
    let zeros : List ℕ = replicate k 0 in
    let q = cond-some (leb (length x + length y) 14) (x ++ zeros ++ y) a e in
    rw (← q.1)
    (omega (arith, leb-true (length x + length y) 14 q.0, length-append (x ++ zeros) y, length-append x zeros, length-replicate {A = ℕ} k 0))
