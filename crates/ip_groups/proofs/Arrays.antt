-- The numbers of an address, put one after another into an array.
use Prim.Native.Nat.{ℕ, suc, ◌+◌, ◌*◌, ◌≤◌, ◌<◌}
use mathlib.Core.Path.{◌≡◌, sym, ap, ◌∙◌}
use mathlib.Core.List.{List, [], ◌∷◌, ◌++◌, append-nil}
use native.Mathlib.Omega.{arith}
use native.Mathlib.Numerals.{add-one}
use lib.ListN.{length, get_or, take, drop, set, drop_of_length-le}
use lib.Seq.{take-suc-set, take-suc, take_all, drop-cons}
use Rattle.ip_groups.specs.Groups.{groups_of}

-- ---- arrays filled from the front

pub octets-next : (bytes octets : List ℕ) (i : ℕ) → i < length bytes → i < length octets → take i octets ≡ take i bytes
    → take (i + 1) (set octets i (get_or bytes i 0)) ≡ take (i + 1) bytes
octets-next bytes octets i h k e = rw (add-one, take-suc-set octets i (get_or bytes i 0) k, take-suc bytes i 0 h, e)

pub octets-all : (bytes octets : List ℕ) (i n : ℕ) → length bytes ≡ n → length octets ≡ n → n ≤ i → take i octets ≡ take i bytes → octets ≡ bytes
octets-all bytes octets i n h k l e =
    sym (take_all i octets (omega arith)) ∙ e ∙ take_all i bytes (omega arith)

pub groups-all : (bytes groups : List ℕ) (i : ℕ) → length bytes ≡ 16 → length groups ≡ 8 → i ≡ 8 → take i groups ++ groups_of (drop (2 * i) bytes) ≡ groups_of bytes
    → groups ≡ groups_of bytes
unfolding groups_of
groups-all bytes groups i h k e q =
    let l : length bytes ≤ 2 * i = omega arith in
    let r : drop (2 * i) bytes ≡ [] = drop_of_length-le bytes l in
    sym (append-nil groups) ∙ ap (λ (g : List ℕ). g ++ []) (sym (take_all i groups (omega arith))) ∙ (rw r at q)

-- ---- the groups of an address

pub groups-next : (a : List ℕ) (i : ℕ) → 2 * i + 1 < length a
    → groups_of (drop (2 * i) a) ≡ (get_or a (2 * i) 0 * 256 + get_or a (2 * i + 1) 0) ∷ groups_of (drop (2 * (i + 1)) a)
unfolding groups_of
groups-next a i h =
    let h₀ : 2 * i < length a = omega arith in
    let h₁ : suc (2 * i) < length a = omega arith in
    let e₁ : 2 * i + 1 ≡ suc (2 * i) = omega arith in
    let e₂ : 2 * (i + 1) ≡ suc (suc (2 * i)) = omega arith in
    rw (e₁, e₂, drop-cons a (2 * i) 0 h₀, drop-cons a (suc (2 * i)) 0 h₁)
