-- How long a text is: at most 15 bytes for four decimals, at most 39 for eight groups.
use Prim.Native.Nat.{ℕ, ◌+◌, ◌*◌, ◌≤◌}
use mathlib.Core.Path.{◌≡◌, refl}
use mathlib.Core.List.{List, [], ◌∷◌, ◌++◌}
use mathlib.Core.Bool.{Bool, true, false, cond}
use native.Mathlib.Omega.{arith}
use native.Mathlib.Decide.{ℕ_discrete}
use lib.Dec.{leb}
use lib.ListN.{length, take, drop, length-append, length-drop}
use borrow.Author.Tests.{leb-true, eq-eqb, ne_eqb}
use Rattle.octets.specs.Number.{Digits, Bytes}
use Rattle.octets.specs.Positions.{Wide}
use Rattle.octets.proofs.Below.{digits-take, digits-drop}
use Rattle.octets.specs.Ascii.{ascii}
use Rattle.numeral.proofs.Spelled.{spelled-most, spelled-bound}
use Rattle.ip_groups.specs.Groups.{groups_of, longest_run, run_at}
use Rattle.ip_text.specs.Text.{dotted, colons, shortened, is_mapped, ipv6_text, text_of}
use Rattle.ip_groups.proofs.Groups.{groups-count, groups-below}
use Rattle.ip_groups.proofs.Runs.{beside-run}

pub dotted-most : (a : List ℕ) → Bytes a → length a ≡ 4 → length (dotted a) ≤ 15
dotted-most [] b e = absurd (omega arith)
dotted-most (x ∷ a) b e = omega (arith, spelled-most 46 10 (omega arith) 2 x a (λ i h. omega (arith, b i h)))

full-most : (gs : List ℕ) → Digits 65536 gs → length gs ≡ 8 → length (colons gs) ≤ 39
full-most [] d e = absurd (omega arith)
full-most (g ∷ gs) d e = omega (arith, spelled-most 58 16 (omega arith) 3 g gs d)

colons-bound : (gs : List ℕ) → Digits 65536 gs → length (colons gs) ≤ length gs * 5
colons-bound gs d = spelled-bound 58 16 (omega arith) 3 gs d

shortened-most : (gs : List ℕ) → Digits 65536 gs → length gs ≡ 8 → length (shortened gs) ≤ 39
unfolding shortened ascii
shortened-most gs d e =
    by-run (leb 2 (longest_run gs)) refl (take (run_at (longest_run gs) gs) gs) (drop (run_at (longest_run gs) gs + longest_run gs) gs) (beside-run gs)
    (digits-take 65536 (run_at (longest_run gs) gs) gs d) (digits-drop 65536 (run_at (longest_run gs) gs + longest_run gs) gs d)
  where
    by-run : (b : Bool) → leb 2 (longest_run gs) ≡ b → (l r : List ℕ) → length l + (longest_run gs + length r) ≡ length gs → Digits 65536 l → Digits 65536 r
        → length (cond b (colons l ++ (58 ∷ 58 ∷ colons r)) (colons gs)) ≤ 39
    by-run true q l r k m n =
        omega (arith, leb-true 2 (longest_run gs) q, colons-bound l m, colons-bound r n, length-append (colons l) (58 ∷ 58 ∷ colons r))
    by-run false q l r k m n = full-most gs d e

ipv6-most : (a : List ℕ) → Bytes a → length a ≡ 16 → length (ipv6_text a) ≤ 39
unfolding ipv6_text ascii
ipv6-most a b e = by-prefix (is_mapped (groups_of a))
  where
    by-prefix : (t : Bool) → length (cond t (ascii "::ffff:" ++ dotted (drop 12 a)) (shortened (groups_of a))) ≤ 39
    by-prefix true = omega (arith, dotted-most (drop 12 a) (digits-drop 256 12 a b) (omega (arith, length-drop 12 a)))
    by-prefix false = shortened-most (groups_of a) (groups-below a b) (groups-count 8 a e)

pub ipv4-text : (a : List ℕ) → length a ≡ 4 → text_of a ≡ dotted a
unfolding text_of
ipv4-text a e = rw (eq-eqb (length a) 4 e)

pub ipv6-text : (a : List ℕ) → (length a ≡ 4 → ⊥) → text_of a ≡ ipv6_text a
unfolding text_of
ipv6-text a f = rw (ne_eqb (length a) 4 f)

pub text_most4 : (a : List ℕ) → Bytes a → length a ≡ 4 → length (text_of a) ≤ 15
text_most4 a b e = rw (ipv4-text a e) (dotted-most a b e)

pub text_most16 : (a : List ℕ) → Bytes a → length a ≡ 16 → length (text_of a) ≤ 39
text_most16 a b e = rw (ipv6-text a (λ p. omega arith)) (ipv6-most a b e)

pub text-most : (a : List ℕ) → Bytes a → Wide (length a) → length (text_of a) ≤ 39
text-most a b w = by_width (ℕ_discrete (length a) 4)
  where
    by_width : Dec (length a ≡ 4) → length (text_of a) ≤ 39
    by_width (yes e) = omega (arith, text_most4 a b e)
    by_width (no n) = text_most16 a b (w.1 n)
