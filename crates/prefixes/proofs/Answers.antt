-- The answers of the call, from what was read, counted and written.
use Rattle.std.specs.Prelude.{None, Some, Result, Err}
use Prim.Native.Nat.{ℕ, ◌+◌, ◌*◌, ◌^◌, ◌≤◌, ◌<◌}
use mathlib.Core.Bool.{Bool, true, false, cond}
use mathlib.Core.Path.{◌≡◌, refl, sym, ap, subst, ◌∙◌}
use mathlib.Core.List.{List}
use native.Mathlib.Omega.{arith}
use borrow.Author.Tests.{le-leb, lt-leb, eq-eqb, ne_eqb, eqb-true}
use lib.Dec.{eqb}
use lib.ListN.{length, take, drop, length-drop}
use lib.Seq.{take_all, get_or-drop}
use Rattle.octets.specs.Number.{value, Bytes}
use Rattle.octets.specs.Positions.{Wide, number_in}
use Rattle.address.specs.Ranges.{range_from, well_formed}
use Rattle.octets.proofs.Digits.{part-is, value-below}
use Rattle.cidr.specs.Shortest.{Shortest}
use Rattle.cidr.proofs.Theorem.{shortest}
use Rattle.output.specs.declared.WriteError.{WriteError}
use Rattle.output.specs.declared.WriteError.TheVariants.{Malformed}
use Rattle.output.specs.Writing.{if_room, counted_of}
use Rattle.prefix_bytes.specs.Entry.{entries_of}
use Rattle.prefixes.specs.Call.{IpRange, ip_range, ip_range_of, prefixes_in, entries_in, prefixed_of, buffer_after}
use Rattle.prefixes.specs.Answers.{AnswersShortest}
use Rattle.cidr.specs.Prefixes.{from-to}
use Rattle.next_prefix.specs.Walked.{walked}
use Rattle.prefix_walk.specs.Entries.{Ordered}
use Rattle.prefix_bytes.proofs.Widths.{by_width}
use Rattle.prefix_walk.proofs.Few.{at_width}

-- a range of two addresses of so many bytes
module _ (s : List ℕ) (width : ℕ) (long : length s ≡ 2 * width) where
  first_read : number_in s 0 width ≡ value (take width s)
  first_read = ap value (part-is s 0 width (omega arith))

  last-read : number_in s width width ≡ value (drop width s)
  last-read = ap value (part-is s width width (omega arith) ∙ take_all width (drop width s) (omega (arith, length-drop width s)))

  last-below : Bytes s → value (drop width s) < 2 ^ (8 * width)
  last-below b =
      let e : length (drop width s) ≡ width = omega (arith, length-drop width s) in
      rw e at (value-below (drop width s) (λ i l. rw (get_or-drop width s i 0) (b (width + i) (omega (arith, length-drop width s)))))

  -- read as numbers
  module _ (first last : ℕ) (p : first ≡ number_in s 0 width) (q : last ≡ number_in s width width) where
    first-is : value (take width s) ≡ first
    first-is = sym (p ∙ first_read)

    last-is : value (drop width s) ≡ last
    last-is = sym (q ∙ last-read)

    pub ordered : Wide width → Bytes s → first ≤ last → Ordered width first last
    ordered w b h = record { wide = w; forward = h; below = rw (← last-is) (last-below b) }

    no-range : last < first → ip_range width s ≡ None
    unfolding ip_range well_formed
    no-range h = rw (first-is, last-is, lt-leb first last h)

    a_range : first ≤ last → ip_range width s ≡ Some (record { width = width; range = from-to first last })
    unfolding ip_range well_formed
    a_range h = rw (first-is, last-is, le-leb first last h)

    module _ (out : List ℕ) where
      pub refused : last < first → (Err Malformed ≡ prefixed_of (ip_range width s) (length out)) × (out ≡ buffer_after (ip_range width s) out)
      unfolding prefixed_of buffer_after
      refused h = rw (no-range h) (refl, refl)

      pub told : {after : List ℕ} {r : Result ℕ WriteError} → Ordered width first last
          → (r ≡ counted_of (entries_of width (walked first last)) (length (walked first last)) (length out)) × (after ≡ if_room (entries_of width (walked first last)) out)
          → (r ≡ prefixed_of (ip_range width s) (length out)) × (after ≡ buffer_after (ip_range width s) out)
      unfolding prefixed_of buffer_after entries_in prefixes_in
      told o t = rw (a_range o.forward, at_width o) t

-- which width a range has
module _ (s out after : List ℕ) (r : Result ℕ WriteError) where
  abbrev Given : (width : ℕ) → Type 0
  Given width = (r ≡ prefixed_of (ip_range width s) (length out)) × (after ≡ buffer_after (ip_range width s) out)

  pub four : length s ≡ 8 → Given 4 → (r ≡ prefixed_of (ip_range_of s) (length out)) × (after ≡ buffer_after (ip_range_of s) out)
  unfolding ip_range_of
  four e a = rw (eq-eqb (length s) 8 e) a

  pub sixteen : length s ≡ 32 → Given 16 → (r ≡ prefixed_of (ip_range_of s) (length out)) × (after ≡ buffer_after (ip_range_of s) out)
  unfolding ip_range_of
  sixteen e a = rw (ne_eqb (length s) 8 (λ f. omega arith), eq-eqb (length s) 32 e) a

pub neither : (s out : List ℕ) → (length s ≡ 8 → ⊥) → (length s ≡ 32 → ⊥)
    → (Err Malformed ≡ prefixed_of (ip_range_of s) (length out)) × (out ≡ buffer_after (ip_range_of s) out)
unfolding ip_range_of prefixed_of buffer_after
neither s out e f = rw (ne_eqb (length s) 8 e, ne_eqb (length s) 32 f) (refl, refl)

-- two addresses of 4 or 16 bytes, in order
pub a_network : (s : List ℕ) {width : ℕ} → Wide width → length s ≡ 2 * width → (range_from width s).first ≤ (range_from width s).last
    → ip_range_of s ≡ Some (record { width = width; range = range_from width s })
unfolding ip_range_of ip_range well_formed
a_network s w = by_width w (λ (k : ℕ). length s ≡ 2 * k → (range_from k s).first ≤ (range_from k s).last → ip_range_of s ≡ Some (record { width = k; range = range_from k s }))
    (λ e h. rw (eq-eqb (length s) 8 e, le-leb (value (take 4 s)) (value (drop 4 s)) h))
    (λ e h. rw (ne_eqb (length s) 8 (λ f. omega arith), eq-eqb (length s) 32 e, le-leb (value (take 16 s)) (value (drop 16 s)) h))

-- Every answer is the shortest list
of_width : (s : List ℕ) (width : ℕ) → length s ≡ 2 * width → Bytes s → (a : IpRange) → ip_range width s ≡ Some a → Shortest (8 * a.width) a.range (prefixes_in a)
unfolding ip_range prefixes_in
of_width s width e b a f = go (well_formed (range_from width s)) f
  where
    go : (u : Bool) → cond u (Some (record { width = width; range = range_from width s })) None ≡ Some a → Shortest (8 * a.width) a.range (prefixes_in a)
    go true f =
        let z : record { width = width; range = range_from width s } ≡ a = cc in
        subst (λ (x : IpRange). Shortest (8 * x.width) x.range (prefixes_in x)) z (shortest (8 * width) (range_from width s) (last-below s width e b))
    go false f = let z : ◌≡◌ {A = ℕ} 0 1 = cc in absurd (omega arith)

pub answers-shortest : AnswersShortest
unfolding ip_range_of
answers-shortest s a b e = go (eqb (length s) 8) (eqb (length s) 32) refl refl e
  where
    go : (u v : Bool) → eqb (length s) 8 ≡ u → eqb (length s) 32 ≡ v → cond u (ip_range 4 s) (cond v (ip_range 16 s) None) ≡ Some a
        → Shortest (8 * a.width) a.range (prefixes_in a)
    go true v p q f = of_width s 4 (eqb-true (length s) 8 p) b a f
    go false true p q f = of_width s 16 (eqb-true (length s) 32 q) b a f
    go false false p q f = let z : ◌≡◌ {A = ℕ} 0 1 = cc in absurd (omega arith)
