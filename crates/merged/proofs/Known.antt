-- What is known of the bytes of a whole record.
use mathlib.Core.Path.{◌≡◌, refl, sym, ◌∙◌, subst}
use mathlib.Core.Bool.{Bool, true, false, cond}
use mathlib.Core.List.{List, []}
use Prim.Native.Nat.{ℕ, ◌+◌, ◌*◌, ◌≤◌}
use native.Mathlib.Omega.{arith}
use native.Mathlib.Nat.{le_refl}
use borrow.Author.Tests.{leb-true, leb-false}
use lib.Dec.{leb, eqb}
use lib.ListN.{length, get_or, drop, length-drop}
use lib.Seq.{slice, take_all, take-length}
use Rattle.registry.specs.Tags.{width_of}
use Rattle.records.specs.Record.{Record, whole, record_of, good_contents, range_of, first_of, last_of}
use Rattle.records.specs.Judge.{judge_alone}
use Rattle.records.proofs.Accepted.{alone-good, overlap_good, first-last}
use Rattle.records.proofs.Laid.{Laid, laid}
use Rattle.records.proofs.Shapes.{no_block, a_block, named-fields}
use Rattle.address.specs.Positions.{range_in}
use Rattle.records.proofs.Contents.{range-slice}
use Rattle.fields.proofs.Starts.{starts-field}
use Rattle.merged.specs.Held.{parsed_from, Recorded}

pub record Known (s : List ℕ) : Type 0 where
  pub tag_is : get_or s 0 0 ≡ (parsed_from s).tag
  pub low : 16 ≤ (parsed_from s).tag
  pub high : (parsed_from s).tag ≤ 21
  pub long : 3 ≤ length s
  pub lies : Laid s (parsed_from s).tag 3 (length s) (parsed_from s)
  pub contents : good_contents (parsed_from s) ≡ true
  pub whole_is : record_of (parsed_from s).tag (slice 3 (length s) s) ≡ whole (parsed_from s)

pub known : (s : List ℕ) → Recorded s → Known s
known s k =
    let o = starts-field s k.tag k.contents [] k.head in
    let n : 3 ≤ length s = omega (arith, o.long) in
    let e : slice 3 (length s) s ≡ k.contents = rw (take-length s) (sym (take_all (length k.contents) (drop 3 s) (omega (arith, o.long, length-drop 3 s))) ∙ o.contents-is) in
    let a = alone-good [] k.tag k.contents (parsed_from s) (overlap_good [] (judge_alone [] k.tag k.contents) (parsed_from s) k.alone).0 in
    let l = laid s k.tag 3 (length s) (parsed_from s) n (le_refl _) (rw e a.parsed) in
    let t : (parsed_from s).tag ≡ k.tag = l.own-tag in
    record { tag_is = o.tag_is ∙ sym t; low = omega (arith, a.low, t); high = omega (arith, a.high, t); long = n; lies = subst (λ (x : ℕ). Laid s x 3 (length s) (parsed_from s)) (sym t) l; contents = a.good-contents; whole_is = subst (λ (x : ℕ). record_of x (slice 3 (length s) s) ≡ whole (parsed_from s)) (sym t) (rw e a.parsed) }

-- its range
module _ (s : List ℕ) (k : Recorded s) where
  abbrev r : Record
  r = parsed_from s

  pub range-room : r.tag ≤ 18 → 6 + 2 * width_of r.tag ≤ length s
  range-room h = let x = known s k in x.lies.range_inside (a_block r.tag x.low h)

  pub range-read : r.tag ≤ 18 → range_of r ≡ range_in s 6 (width_of r.tag)
  range-read h =
      let x = known s k in
      rw (← x.lies.range (a_block r.tag x.low h)) (range-slice s (width_of r.tag) 6)

  pub first-at-most : first_of r ≤ last_of r
  first-at-most = first-last r (known s k).contents

  -- heads of the record and of fields 21 and 22
  pub nine : 9 ≤ length s
  nine = by-tag (leb r.tag 18) refl
    where
      by_width : (v : Bool) → 4 ≤ cond v 16 4
      by_width true = omega arith
      by_width false = omega arith

      by-tag : (t : Bool) → leb r.tag 18 ≡ t → 9 ≤ length s
      by-tag true e = omega (arith, range-room (leb-true _ _ e), by_width (eqb r.tag 0x11))
      by-tag false e =
          let x = known s k in
          let f = named-fields s r.tag 3 (length s) (le_refl _) (no_block r.tag (leb-false _ _ e)) r x.long x.whole_is in
          omega (arith, f.holds.handle.forward, f.holds.name.forward)
