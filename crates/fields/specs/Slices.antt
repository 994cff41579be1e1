-- Serves contracts and proofs. Parts of a part of a list, and a part as the code takes it.
use Rattle.std.specs.Prelude.{◌≡◌, List, [], ◌∷◌, ℕ, zero, suc, ◌+◌, ◌-◌, ◌≤◌, take, drop}
use Rattle.std.proofs.Common.{◌∙◌, ap, arith, suc-add, zero-add, take-take, drop-drop}
use Rattle.std.proofs.Math.Seq.{slice, take-nil}

take-drop : (n a : ℕ) (l : List ℕ) → take n (drop a l) ≡ drop a (take (a + n) l)
take-drop n zero l = rw zero-add
take-drop n (suc a) [] = rw suc-add (take-nil n)
take-drop n (suc a) (x ∷ l) = rw suc-add (take-drop n a l)

-- the first n elements of a part, and what follows them
pub take-slice : (n a e : ℕ) (l : List ℕ) → a + n ≤ e → take n (slice a e l) ≡ slice a (a + n) l
take-slice n a e l h = take-drop n a (take e l) ∙ ap (drop a) (take-take (a + n) e l h)

pub drop-slice : (n a e : ℕ) (l : List ℕ) → drop n (slice a e l) ≡ slice (a + n) e l
drop-slice n a e l = drop-drop n a (take e l)

-- &l[a..e]
pub part_slice : (a e : ℕ) (l : List ℕ) → a ≤ e → take (e - a) (drop a l) ≡ slice a e l
part_slice a e l h =
    let k : a + (e - a) ≡ e = omega arith in
    take-drop (e - a) a l ∙ rw k
