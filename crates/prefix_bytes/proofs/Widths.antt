-- Addresses of 4 and of 16 bytes, and how long their entries are.
use Prim.Native.Nat.{ℕ, ◌+◌, ◌*◌, ◌≤◌}
use mathlib.Core.Path.{◌≡◌, ◌∙◌}
use mathlib.Core.List.{List, [], ◌∷◌}
use native.Mathlib.Omega.{arith}
use native.Mathlib.Decide.{ℕ_discrete}
use lib.ListN.{length, length-append}
use Rattle.octets.specs.Positions.{Wide}
use Rattle.cidr.specs.Prefixes.{Prefix}
use Rattle.prefix_bytes.specs.Entry.{big_endian, entry_of, entries_of}
use Rattle.prefix_bytes.proofs.Bytes.{length-bytes}

-- what holds of 4 and of 16 bytes
pub by_width : {width : ℕ} → Wide width → (P : ℕ → Type 0) → P 4 → P 16 → P width
by_width {width} w P four sixteen = go (ℕ_discrete width 4)
  where
    go : Dec (width ≡ 4) → P width
    go (yes e) = rw e four
    go (no n) = rw (w.1 n) sixteen

pub length-entry : (width : ℕ) (p : Prefix) → length (entry_of width p) ≡ width + 1
unfolding entry_of
length-entry width p = length-append (big_endian width p.first) _ ∙ omega (arith, length-bytes width p.first)

pub length-entries : (width : ℕ) (ps : List Prefix) → length (entries_of width ps) ≡ length ps * (width + 1)
unfolding entries_of
length-entries width [] = omega arith
length-entries width (p ∷ ps) =
    length-append (entry_of width p) (entries_of width ps) ∙ omega (arith, length-entry width p, length-entries width ps)

pub at-most-sixteen : {width : ℕ} → Wide width → width ≤ 16
at-most-sixteen w = by_width w (λ (k : ℕ). k ≤ 16) (omega arith) (omega arith)
