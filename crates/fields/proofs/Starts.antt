-- The head of a row of fields: the bytes of its first field, what follows it, and what is put after the row.
use mathlib.Core.Path.{◌≡◌, refl}
use mathlib.Core.Bool.{Bool, true, false, cond}
use mathlib.Core.List.{List, [], ◌∷◌, ◌++◌}
use Prim.Native.Nat.{ℕ, suc, ◌+◌, ◌-◌, ◌*◌, ◌≤◌}
use borrow.Author.Tests.{le-leb, leb-true}
use native.Mathlib.Omega.{arith}
use lib.Dec.{leb}
use lib.ListN.{length, get_or, take, drop, length-append, length-drop, take-append-drop}
use lib.Seq.{length-take-le, take-append-le, drop-append-le, take_all, drop-length}
use Rattle.fields.specs.Field.{field, short, head_of, size_of}

-- a row that starts with a whole field
pub record Starts (s : List ℕ) (tag : ℕ) (contents rest : List ℕ) : Type 0 where
  pub tag_is : get_or s 0 0 ≡ tag
  pub contents-is : take (length contents) (drop 3 s) ≡ contents
  pub size : size_of s ≡ 3 + length contents
  pub long : length s ≡ 3 + length contents + length rest
  pub rest-is : drop (size_of s) s ≡ rest
  pub split : take (size_of s) s ++ rest ≡ s
  pub alone : head_of (take (size_of s) s) ≡ field tag contents []
  pub followed : (u : List ℕ) → head_of (s ++ u) ≡ field tag contents (rest ++ u)

pub no_field : (tag : ℕ) (contents rest : List ℕ) → short ≡ field tag contents rest → ⊥
no_field tag contents rest e = let z : ◌≡◌ {A = ℕ} 0 1 = cc in omega arith

module _ (t h l : ℕ) (bs : List ℕ) where
  three : 3 + (h * 256 + l) ≡ suc (suc (suc (h * 256 + l)))
  three = omega arith

  module _ (k : h * 256 + l ≤ length bs) where
    starts-here : Starts (t ∷ h ∷ l ∷ bs) t (take (h * 256 + l) bs) (drop (h * 256 + l) bs)
    unfolding head_of
    starts-here =
        let n : ℕ = h * 256 + l in
        let m : length (take n bs) ≡ n = length-take-le n bs k in
        let d : length (drop n bs) ≡ length bs - n = length-drop n bs in
        let z : drop n (take n bs) ≡ [] = rw m at (drop-length (take n bs)) in
        record {
          tag_is = refl;
          contents-is = rw m;
          size = rw m;
          long = omega arith;
          rest-is = rw three;
          split = rw (three, take-append-drop n bs);
          alone = rw (three, le-leb n (length (take n bs)) (omega arith), take_all n (take n bs) (omega arith), z);
          followed = λ u.
              rw (
                le-leb n (length (bs ++ u)) (omega (arith, length-append bs u)),
                take-append-le n bs u k,
                drop-append-le n bs u k,
              );
        }

pub starts-field : (s : List ℕ) (tag : ℕ) (contents rest : List ℕ) → head_of s ≡ field tag contents rest → Starts s tag contents rest
unfolding head_of
starts-field [] tag contents rest e = absurd (no_field tag contents rest e)
starts-field (t ∷ []) tag contents rest e = absurd (no_field tag contents rest e)
starts-field (t ∷ h ∷ []) tag contents rest e = absurd (no_field tag contents rest e)
starts-field (t ∷ h ∷ l ∷ bs) tag contents rest e = by-room (leb (h * 256 + l) (length bs)) refl e
  where
    by-room : (v : Bool) → leb (h * 256 + l) (length bs) ≡ v
        → cond v (field t (take (h * 256 + l) bs) (drop (h * 256 + l) bs)) short ≡ field tag contents rest → Starts (t ∷ h ∷ l ∷ bs) tag contents rest
    by-room true x k =
        let a : t ≡ tag = cc in
        let b : take (h * 256 + l) bs ≡ contents = cc in
        let c : drop (h * 256 + l) bs ≡ rest = cc in
        rw (← a, ← b, ← c) (starts-here t h l bs (leb-true _ _ x))
    by-room false x k = absurd (no_field tag contents rest k)
