-- The network of a range, from what `prefixes` tells; its filter by entries, and that it fits.
use Rattle.std.specs.Prelude.{Option, None, Some, Result, Ok, Err}
use Prim.Native.Nat.{ℕ, ◌+◌, ◌-◌, ◌*◌, ◌/◌, ◌≤◌, ◌<◌}
use mathlib.Core.Bool.{Bool, true, false, cond}
use mathlib.Core.Path.{◌≡◌, refl, sym, ap, ◌∙◌}
use mathlib.Core.List.{List, [], ◌++◌, append-nil}
use native.Mathlib.Omega.{arith}
use native.Mathlib.Nat.{mul-le-mul_right}
use borrow.Author.Tests.{le-ltb, lt-ltb, eqb-true}
use lib.Dec.{eqb, ltb}
use lib.ListN.{length, take, drop, length-append}
use lib.Seq.{take_at}
use Rattle.octets.specs.Number.{Bytes}
use Rattle.octets.specs.Positions.{Wide}
use Rattle.address.specs.Ranges.{range_from, well_formed}
use Rattle.output.specs.Writing.{Written}
use Rattle.output.proofs.Writing.{written-nothing}
use Rattle.prefixes.specs.Call.{IpRange, ip_range, ip_range_of, prefixes_in, entries_in, prefixed_of, buffer_after}
use Rattle.output.specs.declared.WriteError.{WriteError}
use Rattle.prefixes.proofs.Answers.{answers-shortest}
use Rattle.prefix_bytes.proofs.Widths.{by_width, length-entries}
use Rattle.formats.specs.declared.Format.{Format}
use Rattle.formats.specs.declared.Style.{Style}
use Rattle.formats.specs.Template.{Template, name_in, template_of}
use Rattle.filters.specs.Filter.{rows_of, laid_out, network_text, filter_text, room, text_in}
use Rattle.formats.specs.Styles.{style_of, template_at}
use Rattle.filters.specs.Rows.{entry_rows}
use Rattle.filters.specs.Listed.{BeforeFits}
use Rattle.formats.proofs.Names.{name-length}
use Rattle.formats.proofs.Styles.{same_template, same_foot}
use Rattle.filters.proofs.Rows.{rows_are}
use Rattle.formats.proofs.Lengths.{short}
use Rattle.filters.proofs.Lengths.{rows-most}

-- head, rows and foot, by entries
abbrev text_by_entries : (style : Style) (name : List ℕ) (width count : ℕ) (entries : List ℕ) → List ℕ
text_by_entries style name width count s =
    (template_at style name).head ++ entry_rows style (template_at style name).before width count s ++ (template_at style []).foot

-- a range of addresses of 4 or 16 bytes
record Sized (s : List ℕ) (a : IpRange) : Type 0 where
  wide : Wide a.width
  long : length s ≡ 2 * a.width

of_width : (s : List ℕ) (width : ℕ) (a : IpRange) → ip_range width s ≡ Some a → a.width ≡ width
unfolding ip_range
of_width s width a e = go (well_formed (range_from width s)) e
  where
    go : (b : Bool) → cond b (Some (record { width = width; range = range_from width s })) None ≡ Some a → a.width ≡ width
    go true f = let z : record { width = width; range = range_from width s } ≡ a = cc in sym (ap (λ (x : IpRange). x.width) z)
    go false f = let z : ◌≡◌ {A = ℕ} 0 1 = cc in absurd (omega arith)

sized : (s : List ℕ) (a : IpRange) → ip_range_of s ≡ Some a → Sized s a
unfolding ip_range_of
sized s a e = go (eqb (length s) 8) (eqb (length s) 32) refl refl e
  where
    go : (u v : Bool) → eqb (length s) 8 ≡ u → eqb (length s) 32 ≡ v → cond u (ip_range 4 s) (cond v (ip_range 16 s) None) ≡ Some a → Sized s a
    go true v p q f =
        let w : a.width ≡ 4 = of_width s 4 a f in
        record { wide = (omega arith, λ n. absurd (n w)); long = omega (arith, eqb-true (length s) 8 p) }
    go false true p q f =
        let w : a.width ≡ 16 = of_width s 16 a f in
        record { wide = (omega arith, λ n. w); long = omega (arith, eqb-true (length s) 32 q) }
    go false false p q f = let z : ◌≡◌ {A = ℕ} 0 1 = cc in absurd (omega arith)

module _ (s : List ℕ) (bytes : Bytes s) (a : IpRange) (is : ip_range_of s ≡ Some a) where
  few : length (prefixes_in a) ≤ 16 * a.width - 2
  few = omega (arith, (answers-shortest s a bytes is).few (omega (arith, (sized s a is).wide.0)))

  few_bytes : length (prefixes_in a) * (a.width + 1) ≤ 4318
  few_bytes =
      let most : (16 * a.width - 2) * (a.width + 1) ≤ 4318 = by_width (sized s a is).wide (λ (k : ℕ). (16 * k - 2) * (k + 1) ≤ 4318) (omega arith) (omega arith) in
      omega (arith, mul-le-mul_right (a.width + 1) few)

-- What `prefixes` tells where there is room for all: the network, and its entries
pub record Network (s after : List ℕ) (count : ℕ) : Type 0 where
  pub network : IpRange
  pub is : ip_range_of s ≡ Some network
  pub bytes : Bytes s
  pub rest : List ℕ
  pub counted : count ≡ length (prefixes_in network)
  pub entries : after ≡ entries_in network ++ rest

module _ (s out : List ℕ) {after : List ℕ} {r : Result ℕ WriteError} (bytes : Bytes s) (ample : length out ≡ 4318) (p : r ≡ prefixed_of (ip_range_of s) (length out)) (q : after ≡ buffer_after (ip_range_of s) out) where
  enough : (a : IpRange) → ip_range_of s ≡ Some a → ltb (length out) (length (entries_in a)) ≡ false
  unfolding entries_in
  enough a e = le-ltb (length out) (length (entries_in a)) (omega (arith, length-entries a.width (prefixes_in a), few_bytes s bytes a e))

  pub a_network : {count : ℕ} → r ≡ Ok count → Network s after count
  unfolding prefixed_of buffer_after
  a_network {count} written = go (ip_range_of s) refl (sym written ∙ p) q
    where
      go : (o : Option IpRange) → ip_range_of s ≡ o → Ok count ≡ prefixed_of o (length out) → after ≡ buffer_after o out → Network s after count
      go None e p q = cc
      go (Some a) e p q =
          let all = rw (enough a e) at p in
          record {
            network = a;
            is = e;
            bytes = bytes;
            rest = drop (length (entries_in a)) out;
            counted = cc;
            entries = rw (enough a e) at q;
          }

  pub no-network : {refused : WriteError} → r ≡ Err refused → ip_range_of s ≡ None
  unfolding prefixed_of
  no-network {refused} k = go (ip_range_of s) refl (sym k ∙ p)
    where
      go : (o : Option IpRange) → ip_range_of s ≡ o → Err refused ≡ prefixed_of o (length out) → o ≡ None
      go None e p = refl
      go (Some a) e p = let z = rw (enough a e) at p in cc

module _ (s : List ℕ) (a : IpRange) (is : ip_range_of s ≡ Some a) where
  width_is : length s / 2 ≡ a.width
  width_is = omega (arith, (sized s a is).long)

  inside : (rest : List ℕ) → length (prefixes_in a) * (length s / 2 + 1) ≤ length (entries_in a ++ rest)
  unfolding entries_in
  inside rest = rw width_is (omega (arith, length-append (entries_in a) rest, length-entries a.width (prefixes_in a)))

  exact-length : (n : ℕ) → n ≡ length (prefixes_in a) → length (entries_in a) ≡ n * (length s / 2 + 1)
  unfolding entries_in
  exact-length n e = rw (e, width_is) (length-entries a.width (prefixes_in a))

  module _ (f : Format) (handle : List ℕ) where
    by_entries : (rest : List ℕ) → text_by_entries (style_of f (length s / 2)) (name_in f handle) (length s / 2) (length (prefixes_in a)) (entries_in a ++ rest) ≡ filter_text f handle s
    unfolding filter_text network_text laid_out entries_in
    by_entries rest =
        rw (width_is, is, rows_are (style_of f a.width) a.width (name_in f handle) (prefixes_in a) rest, same_template f a.width (name_in f handle), same_foot (style_of f a.width) (name_in f handle))

    fits : Bytes s → length handle ≤ 64 → length (filter_text f handle s) ≤ room
    unfolding filter_text network_text laid_out
    fits bytes h =
        let name : List ℕ = name_in f handle in
        let l = template_of f a.width name in
        let u = short f a.width name in
        let rows = rows-most l name u a.width (sized s a is).wide (prefixes_in a) in
        let n : length name ≤ 64 = omega (arith, name-length f handle) in
        let many : length (prefixes_in a) ≤ 254 = by_width (sized s a is).wide (λ (k : ℕ). length (prefixes_in a) ≤ 16 * k - 2 → length (prefixes_in a) ≤ 254) (λ e. omega arith) (λ e. omega arith) (few s bytes a is) in
        rw is
        (omega (arith, length-append (l.head ++ rows_of l a.width (prefixes_in a)) l.foot, length-append l.head (rows_of l a.width (prefixes_in a)), u.head, u.foot, rows, mul-le-mul_right (89 + length name) many))

module _ {s after : List ℕ} {count : ℕ} (g : Network s after count) where
  pub is_wide : Wide (length s / 2)
  is_wide = rw (width_is s g.network g.is) (sized s g.network g.is).wide

  pub entries-inside : count * (length s / 2 + 1) ≤ length after
  entries-inside = go g.counted g.entries
    where
      go : {n : ℕ} {t : List ℕ} → n ≡ length (prefixes_in g.network) → t ≡ entries_in g.network ++ g.rest → n * (length s / 2 + 1) ≤ length t
      go p q = rw (p, q) (inside s g.network g.is g.rest)

  -- the entries without what follows them
  pub exact : Network s (take (count * (length s / 2 + 1)) after) count
  exact = record { network = g.network; is = g.is; bytes = g.bytes; rest = []; counted = g.counted; entries = go g.entries }
    where
      go : {t : List ℕ} → t ≡ entries_in g.network ++ g.rest → take (count * (length s / 2 + 1)) t ≡ entries_in g.network ++ []
      go q = rw (q, append-nil (entries_in g.network)) (take_at (entries_in g.network) g.rest (count * (length s / 2 + 1)) (exact-length s g.network g.is count g.counted))

  module _ (f : Format) (handle : List ℕ) where
    text-is : text_by_entries (style_of f (length s / 2)) (name_in f handle) (length s / 2) count after ≡ filter_text f handle s
    text-is = go g.counted g.entries
      where
        go : {n : ℕ} {t : List ℕ} → n ≡ length (prefixes_in g.network) → t ≡ entries_in g.network ++ g.rest
            → text_by_entries (style_of f (length s / 2)) (name_in f handle) (length s / 2) n t ≡ filter_text f handle s
        go p q = rw (p, q) (by_entries s g.network g.is f handle g.rest)

    before-fits : length handle ≤ 64 → length (template_at (style_of f (length s / 2)) (name_in f handle)).before ≤ 89
    before-fits h =
        let e : (template_of f (length s / 2) (name_in f handle)).before ≡ (template_at (style_of f (length s / 2)) (name_in f handle)).before = ap (λ (l : Template). l.before) (same_template f (length s / 2) (name_in f handle)) in
        rw (← e) (omega (arith, (short f (length s / 2) (name_in f handle)).before, name-length f handle))

    text-fits : length handle ≤ 64 → length (filter_text f handle s) ≤ room
    text-fits h = fits s g.network g.is f handle g.bytes h

    -- by the name and the style that were found
    module _ {style : Style} {name : List ℕ} (styled : style ≡ style_of f (length s / 2)) (named : name ≡ name_in f handle) where
      text-by : text_by_entries style name (length s / 2) count after ≡ filter_text f handle s
      text-by = rw (styled, named) text-is

      pub entries_fit : {n : ℕ} → length handle ≤ 64 → room ≤ n
          → BeforeFits style name × (length (text_by_entries style name (length s / 2) count after) ≤ n)
      entries_fit h k = (
        rw (styled, named) (before-fits h),
        rw text-by (omega (arith, text-fits h)),
      )

      pub entries-put : {before out : List ℕ} {n : ℕ} → room ≤ length before → length handle ≤ 64 → Written (text_by_entries style name (length s / 2) count after) before out n
          → Written (text_in f handle s (length before)) before out n
      unfolding text_in
      entries-put {before} k h w = rw (le-ltb (length before) room k, le-ltb 64 (length handle) h, ← text-by) w

-- What is written: nothing without room or with too long a handle, nothing where there is no network, else the filter
module _ (f : Format) (handle s out : List ℕ) where
  pub no_room_lem : length out < room → Written (text_in f handle s (length out)) out out 0
  unfolding text_in
  no_room_lem h = rw (lt-ltb (length out) room h) (written-nothing out)

  module _ (h : room ≤ length out) where
    pub long-handle : 64 < length handle → Written (text_in f handle s (length out)) out out 0
    unfolding text_in
    long-handle k = rw (le-ltb (length out) room h, lt-ltb 64 (length handle) k) (written-nothing out)

    module _ (k : length handle ≤ 64) where
      filter-put : {after : List ℕ} {n : ℕ} → Written (filter_text f handle s) out after n → Written (text_in f handle s (length out)) out after n
      unfolding text_in
      filter-put w = rw (le-ltb (length out) room h, le-ltb 64 (length handle) k) w

      pub nothing_put : ip_range_of s ≡ None → Written (text_in f handle s (length out)) out out 0
      unfolding filter_text network_text
      nothing_put e = filter-put (rw e (written-nothing out))
