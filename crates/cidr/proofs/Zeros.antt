-- Trailing zeros by what they say: the largest power of two, of at most w bits, of which a number is a multiple.
use Prim.Native.Nat.{ℕ, zero, suc, ◌+◌, ◌*◌, ◌/◌, ◌^◌, ◌%◌, ◌≤◌, ◌<◌}
use mathlib.Core.Path.{◌≡◌, refl, sym, ap, ◌∙◌}
use native.Mathlib.Omega.{arith}
use native.Mathlib.Nat.{mul-div_cancel, pow-suc}
use native.Mathlib.Decide.{dec_lt}
use lib.Count.{count_trailing_zeros, under}
use lib.Pow.{pow-add, pow_pos}
use Rattle.cidr.proofs.Multiples.{Multiple, sum, rest, finer, near}

pub record Zeros (w n z : ℕ) : Type 0 where
  pub multiple : Multiple (2 ^ z) n
  pub short : z ≤ w
  pub next : z < w → Multiple (2 ^ suc z) n → ⊥

pub zeros : (w n : ℕ) → Zeros w n (count_trailing_zeros w n)
unfolding count_trailing_zeros
zeros zero n = record { multiple = record { times = n; equal = omega arith }; short = omega arith; next = λ h m. omega (arith, h) }
zeros (suc w) n = go (n % 2) (count_trailing_zeros w (n / 2)) refl (zeros w (n / 2))
  where
    go : (d t : ℕ) → n % 2 ≡ d → Zeros w (n / 2) t → Zeros (suc w) n (under d t)
    go zero t e z = record {
      multiple = record { times = z.multiple.times; equal = rw (pow-suc 2 t) (omega (arith, z.multiple.equal)) };
      short = omega (arith, z.short);
      next = λ h m. z.next (omega arith) (halved m);
    }
      where
        halved : Multiple (2 ^ suc (suc t)) n → Multiple (2 ^ suc t) (n / 2)
        halved m = record { times = m.times; equal = let f : n ≡ m.times * (2 ^ suc t * 2) = rw (pow-suc 2 (suc t)) at m.equal in omega arith }
    go (suc d) t e z = record {
      multiple = record { times = n; equal = omega arith };
      short = omega arith;
      next = λ h m. omega (arith, m.equal);
    }

unique : {w n y z : ℕ} → Zeros w n y → Zeros w n z → y ≡ z
unique {w} {n} {y} {z} a b = go (dec_lt y z) (dec_lt z y)
  where
    go : Dec (y < z) → Dec (z < y) → y ≡ z
    go (yes h) g = absurd (a.next (omega (arith, b.short)) (finer (suc y) z h b.multiple))
    go (no h) (yes g) = absurd (b.next (omega (arith, a.short)) (finer (suc z) y g a.multiple))
    go (no h) (no g) = omega arith

-- a number of j bits above k: the zeros of the k lower ones, or k and those of the upper ones
module _ (k j h : ℕ) where
  multiple : Multiple (2 ^ k) (h * 2 ^ k)
  multiple = record { times = h; equal = refl }

  pub zeros-low : {l : ℕ} → 0 < l → l < 2 ^ k → count_trailing_zeros k l ≡ count_trailing_zeros (k + j) (h * 2 ^ k + l)
  zeros-low {l} p b = unique both (zeros (k + j) (h * 2 ^ k + l))
    where
      z : Zeros k l (count_trailing_zeros k l)
      z = zeros k l

      inside : Dec (count_trailing_zeros k l < k) → count_trailing_zeros k l < k
      inside (yes i) = i
      inside (no i) =
          let f : l ≤ 0 = near (2 ^ k) (finer k (count_trailing_zeros k l) (omega arith) z.multiple) (record { times = 0; equal = omega arith }) (omega arith) in
          absurd (omega arith)

      i : count_trailing_zeros k l < k
      i = inside (dec_lt (count_trailing_zeros k l) k)

      both : Zeros (k + j) (h * 2 ^ k + l) (count_trailing_zeros k l)
      both = record {
        multiple = sum (finer (count_trailing_zeros k l) k z.short multiple) z.multiple;
        short = omega (arith, i);
        next = λ g m. z.next i (rest m (finer (suc (count_trailing_zeros k l)) k i multiple));
      }

  pub zeros-high : k + count_trailing_zeros j h ≡ count_trailing_zeros (k + j) (h * 2 ^ k)
  zeros-high = unique both (zeros (k + j) (h * 2 ^ k))
    where
      z : Zeros j h (count_trailing_zeros j h)
      z = zeros j h

      up : (t : ℕ) → Multiple (2 ^ t) h → Multiple (2 ^ (k + t)) (h * 2 ^ k)
      up t m = record { times = m.times; equal = rw (pow-add 2 k t) (ap (λ (x : ℕ). x * 2 ^ k) m.equal ∙ omega arith) }

      down : (t : ℕ) → Multiple (2 ^ (k + t)) (h * 2 ^ k) → Multiple (2 ^ t) h
      down t m = record {
        times = m.times;
        equal =
            let f : h * 2 ^ k ≡ m.times * (2 ^ k * 2 ^ t) = rw (pow-add 2 k t) at m.equal in
            let g : h * 2 ^ k ≡ m.times * 2 ^ t * 2 ^ k = omega arith in
            sym (mul-div_cancel h (pow_pos k)) ∙ ap (λ (x : ℕ). x / 2 ^ k) g ∙ mul-div_cancel (m.times * 2 ^ t) (pow_pos k);
      }

      both : Zeros (k + j) (h * 2 ^ k) (k + count_trailing_zeros j h)
      both = record {
        multiple = up (count_trailing_zeros j h) z.multiple;
        short = omega (arith, z.short);
        next = λ g m.
            let e : suc (k + count_trailing_zeros j h) ≡ k + suc (count_trailing_zeros j h) = omega arith in
            z.next (omega arith) (down (suc (count_trailing_zeros j h)) (rw e at m));
      }
