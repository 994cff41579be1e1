-- What a verdict of soundness tells: the records, how many at most, and how many bytes.
use Prim.Native.Nat.{ℕ, zero, suc, ◌+◌, ◌≤◌}
use mathlib.Core.Bool.{Bool, true, false, cond}
use mathlib.Core.Path.{◌≡◌, refl, sym, ap, ap₂, ◌∙◌}
use mathlib.Core.List.{List, [], ◌∷◌, reverse}
use native.Mathlib.Omega.{arith}
use borrow.Author.Tests.{leb-true}
use lib.Dec.{leb}
use lib.ListN.{length, drop, length-reverse}
use Rattle.fields.specs.Field.{head_of}
use Rattle.records.specs.Record.{Record}
use Rattle.image.specs.Image.{Image, sound, defective, Next, stopped, taken, next_of, after_next, image_from, starts_right, image_of}
use Rattle.image.specs.Part.{records_of}
use Rattle.image.specs.Checking.{verdict_of, numbers_in}
use Rattle.std.specs.Prelude.{Result, Ok, Err}
use Rattle.registry.specs.declared.Flaw.{Flaw}
use Rattle.registry.specs.Defects.{defect_number}

pub not_sound : (d p : ℕ) (records : List Record) → defective d p ≡ sound records → ⊥
not_sound d p records e = let z : ◌≡◌ {A = ℕ} 0 1 = cc in omega arith

pub is-sound : (i : Image) (n : ℕ) → verdict_of i ≡ Ok n → i ≡ sound (records_of i)
is-sound (sound records) n e = refl
is-sound (defective d p) n e = let z : ◌≡◌ {A = ℕ} 0 1 = cc in absurd (omega arith)

pub is-defective : (i : Image) (d p : ℕ) → verdict_of i ≡ Err (d, p) → i ≡ defective d p
is-defective (sound records) d p e = absurd (let z : ◌≡◌ {A = ℕ} 0 1 = cc in omega arith)
is-defective (defective x y) d p e = let f : (x, y) ≡ (d, p) = cc in ap₂ defective (ap (λ (q : ℕ × ℕ). q.0) f) (ap (λ (q : ℕ × ℕ). q.1) f)

-- what the code's verdict says of the definition's
pub verdict_sound : {v : Result ℕ Flaw} {w : Result ℕ (ℕ × ℕ)} {n : ℕ} → numbers_in v ≡ w → v ≡ Ok n → w ≡ Ok n
verdict_sound e f = sym e ∙ ap numbers_in f

pub verdict_defective : {v : Result ℕ Flaw} {w : Result ℕ (ℕ × ℕ)} {flaw : Flaw} → numbers_in v ≡ w → v ≡ Err flaw → w ≡ Err (defect_number flaw.defect, flaw.place)
verdict_defective e f = sym e ∙ ap numbers_in f

pub counted : (i : Image) (n : ℕ) → verdict_of i ≡ Ok n → length (records_of i) ≡ n
counted (sound records) n e = cc
counted (defective d p) n e = let z : ◌≡◌ {A = ℕ} 0 1 = cc in absurd (omega arith)

own-length : (a records : List Record) → sound (reverse a) ≡ sound records → length records ≡ length a
own-length a records e = let f : reverse a ≡ records = cc in sym (ap length f) ∙ length-reverse a

few-from : (n : ℕ) (earlier : List Record) (l : List ℕ) (records : List Record) → image_from n earlier l ≡ sound records → length records ≤ n + length earlier
unfolding image_from
few-from zero earlier [] records e = omega (arith, own-length earlier records e)
few-from zero earlier (b ∷ l) records e = absurd (not_sound _ _ records e)
few-from (suc n) earlier [] records e = omega (arith, own-length earlier records e)
few-from (suc n) earlier (b ∷ l) records e = by_next (next_of earlier (head_of (b ∷ l))) e (λ r rest k. few-from n (r ∷ earlier) rest records k)
  where
    by_next : (x : Next) → after_next earlier x (λ r rest. image_from n (r ∷ earlier) rest) ≡ sound records
        → ((r : Record) (rest : List ℕ) → image_from n (r ∷ earlier) rest ≡ sound records → length records ≤ n + suc (length earlier))
        → length records ≤ suc n + length earlier
    by_next (stopped d) k onward = absurd (not_sound _ _ records k)
    by_next (taken r rest) k onward = omega (arith, onward r rest k)

-- the limit of bytes, the start, and what follows it
pub record Opens (s : List ℕ) (records : List Record) : Type 0 where
  pub few_bytes : length s ≤ 262144
  pub started : starts_right s ≡ true
  pub read : image_from 4096 [] (drop 4 s) ≡ sound records

pub opens : (s : List ℕ) (records : List Record) → image_of s ≡ sound records → Opens s records
unfolding image_of
opens s records e = by_tests (leb (length s) 262144) (starts_right s) refl refl e
  where
    by_tests : (t u : Bool) → leb (length s) 262144 ≡ t → starts_right s ≡ u
        → cond t (cond u (image_from 4096 [] (drop 4 s)) (defective 2 0)) (defective 1 0) ≡ sound records → Opens s records
    by_tests true true x y k = record { few_bytes = leb-true _ _ x; started = y; read = k }
    by_tests true false x y k = absurd (not_sound _ _ records k)
    by_tests false u x y k = absurd (not_sound _ _ records k)

module _ (s : List ℕ) (count : ℕ) (e : verdict_of (image_of s) ≡ Ok count) where
  opened : Opens s (records_of (image_of s))
  opened = opens s (records_of (image_of s)) (is-sound (image_of s) count e)

  pub few-records : count ≤ 4096
  few-records = omega (arith, counted (image_of s) count e, few-from 4096 [] (drop 4 s) (records_of (image_of s)) opened.read)

  pub few_bytes : length s ≤ 262144
  few_bytes = opened.few_bytes
