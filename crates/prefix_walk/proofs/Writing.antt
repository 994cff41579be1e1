-- Entries written one after another to the front of a buffer: those that are written, and those of the rest of the range, are all.
use Prim.Native.Nat.{ℕ, suc, ◌+◌, ◌-◌, ◌*◌, ◌^◌, ◌≤◌, ◌<◌}
use mathlib.Core.Path.{◌≡◌, refl, ap}
use mathlib.Core.List.{List, [], ◌∷◌}
use native.Mathlib.Omega.{arith}
use native.Mathlib.Decide.{dec_le}
use borrow.Rule.Slice.PartMut.{put_mid}
use lib.ListN.{length, take, drop}
use lib.Pow.{pow_mono, pow_pos}
use Rattle.octets.specs.Positions.{Wide}
use Rattle.output.specs.Writing.{Written}
use Rattle.output.proofs.Writing.{Parted, written_over, over-written, at-start, part-fits, next-part, last-part, at-end}
use Rattle.cidr.specs.Prefixes.{Prefix, from-to}
use Rattle.cidr.specs.First.{Largest}
use Rattle.prefix_bytes.specs.Entry.{entry_of, entries_of}
use Rattle.prefix_bytes.specs.Fitting.{EntryFits}
use Rattle.prefix_bytes.proofs.Widths.{length-entry}
use Rattle.prefix_walk.specs.Entries.{Entered, Listed}

pub nothing-entered : (width : ℕ) (ps : List Prefix) (before : List ℕ) → Entered width ps ps before before 0 0
nothing-entered width ps before = record { counted = omega arith; reached = at-start (entries_of width ps) before }

module _ {width at n : ℕ} {all rest : List Prefix} {before after : List ℕ} (g : Entered width all rest before after at n) {p : Prefix} {left : List Prefix} (known : rest ≡ p ∷ left) where
  next : Parted (entries_of width rest) (entry_of width p) (entries_of width left)
  unfolding entries_of
  next = record { is = rw known }

  pub few-entered : n < length all
  few-entered = omega (arith, g.counted, ap length known)

  pub entry-inside : length (entries_of width all) ≤ length before → at + (width + 1) ≤ length after
  entry-inside room = omega (arith, part-fits g.reached room next, length-entry width p)

  pub entered : {c : List ℕ} → Written (entry_of width p) (take (length after - at) (drop at after)) c (width + 1)
      → Entered width all left before (put_mid at (length after - at) after c) (at + (width + 1)) (n + 1)
  entered w = record { counted = omega (arith, g.counted, ap length known); reached = next-part g.reached next w }

-- the first one alone
pub one-entered : {width : ℕ} {p : Prefix} {rest : List Prefix} {before after : List ℕ} → Written (entry_of width p) before after (width + 1)
    → Entered width (p ∷ rest) rest before after (width + 1) 1
unfolding entries_of
one-entered {width} {p} w = record { counted = omega arith; reached = record { front = entry_of width p; joined = refl; written = w } }

-- none is left
pub all-entered : {width at n : ℕ} {all : List Prefix} {before after : List ℕ} → Entered width all [] before after at n → Listed width all before after n
unfolding entries_of
all-entered g = record { counted = omega (arith, g.counted); is = written_over (at-end g.reached) }

-- the others into the rest of the buffer
pub both-listed : {width at n m : ℕ} {all rest : List Prefix} {before b c : List ℕ} → Entered width all rest before b at n
    → Listed width rest (take (length b - at) (drop at b)) c m → Listed width all before (put_mid at (length b - at) b c) (n + m)
both-listed g l = record { counted = omega (arith, g.counted, l.counted); is = written_over (last-part g.reached (over-written l.is)) }

-- the entry of a prefix inside the range fits
pub entry-fits : (width : ℕ) {s e t : ℕ} → Wide width → s ≤ e → e < 2 ^ (8 * width) → Largest (from-to s e) t → EntryFits width s t
entry-fits width {s} {e} {t} w h b l = record { wide = w; address = omega arith; short = at_most (dec_le t (8 * width)) }
  where
    at_most : Dec (t ≤ 8 * width) → t ≤ 8 * width
    at_most (yes d) = d
    at_most (no d) =
        let i : suc (8 * width) ≤ t = omega arith in
        absurd (omega (arith, l.inside, pow_mono i, pow_pos (8 * width)))
